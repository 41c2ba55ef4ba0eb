mod VisitLemmas
