-- The service of a site, put together.
use Rattle.std.proofs.Common.{◌≡◌, ℕ, List, [], ◌++◌, length, Option, Some, None, sym, ap, ◌∙◌, subst, arith, append-nil}
use Rattle.ifdb_io.specs.Doors.{Stays, LosesFirst, Becomes}
use Rattle.ifdb_io.specs.declared.outside.Source as source
use Rattle.ifdb_io.specs.declared.outside.Sink as sink
use Rattle.ifdb_io.specs.declared.doors.Door as door
use Rattle.ifdb_io.specs.declared.doors.Site as site
use Rattle.ifdb_turn.specs.declared.turnstile.Pass.{Pass}
use Rattle.ifdb_turn.specs.Histories.{AllRight}
use Rattle.ifdb_turn.specs.Passes.{history, places, OwnsAll}
use Rattle.ifdb_turn.specs.Places.{times, RisesFrom}
use Rattle.ifdb_turn.proofs.PlaceLemmas.{merged_apart}
use Rattle.ifdb_model.specs.Log.{Entry as LogEntry}
use Rattle.ifdb_history.specs.declared.entry.Entry.{Entry}
use Rattle.ifdb_history.specs.History.{IsRight}
use Rattle.ifdb_session.specs.declared.counts.Counts.{Counts}
use Rattle.ifdb_session.specs.Starts.{start_of}
use Rattle.ifdb_session.specs.Counts.{counts_of}
use Rattle.ifdb_words.specs.declared.service.Service.{Service}
use Rattle.ifdb_service.specs.Doors.{ServedAll}
use Rattle.ifdb_service.specs.Site.{Exchanges, IsServedOver, IsAskedFor}
use Rattle.ifdb_service.specs.Summary.{listening_line, summary_text}
use Rattle.ifdb_service.proofs.Links.{run_later}

-- what a list lost it lost still, where it stayed since
pub loses_kept : {A : Type 0} (a b c : Option (List A)) (xs : List A) → LosesFirst a b xs → Stays b c → LosesFirst a c xs
loses_kept None b c xs l s = tt
loses_kept (Some told) None c xs l s = absurd l
loses_kept (Some told) (Some left) c xs l s = subst (λ o. LosesFirst (Some told) o xs) (sym s) l

-- what it became it is, where it stayed before
pub becomes_kept : {A : Type 0} (a b c : Option (List A)) (xs : List A) → Stays a b → Becomes b c xs → Becomes a c xs
becomes_kept None b c xs s l = tt
becomes_kept (Some told) b c xs s l = subst (λ o. Becomes o c xs) s l

module _ {S D K : Type 0} (sites : site.Ghosts S D K) where
  -- the site gave doors, and then took some back
  pub exchanged : (s : Service) (first then last : S) (given back : List D) → IsAskedFor sites s then → sites.asked last ≡ sites.asked then
      → LosesFirst (sites.waiting first) (sites.waiting then) given → Stays (sites.waiting then) (sites.waiting last)
      → Stays (sites.back first) (sites.back then) → Becomes (sites.back then) (sites.back last) back
      → length given ≡ s.workers → Exchanges sites s first last given back
  exchanged s first then last given back asked kept loses waits stays becomes many = record {
    asked = kept ∙ asked;
    first = loses_kept _ _ _ given loses waits;
    returned = becomes_kept _ _ _ back stays becomes;
    many = many;
  }

module _ {S D K : Type 0} (sites : site.Ghosts S D K) (doors : door.Ghosts D K) (sources : source.Ghosts K) (sinks : sink.Ghosts K)
    (first_log : List LogEntry) (IsKept : List (List ℕ) → Type 0) (HasFailed : Type 0) where
  -- all doors were served, in the history with which the turnstile was closed
  abbrev pub is_served : {X : Type 0} (Wrote : List ℕ → Type 0) (s : Service) (first last : S) (given back : List D) (old now : Pass X Entry) (faults : ℕ) (counts : Counts)
      → Exchanges sites s first last given back → places old ≡ [] → ServedAll sources sinks first_log IsKept HasFailed doors s.limit old now given back faults
      → AllRight (IsRight (start_of first_log)) (history now) → OwnsAll now → RisesFrom 0 (places now)
      → counts ≡ counts_of first_log (history now) → Wrote (listening_line s.port ++ summary_text counts faults)
      → IsServedOver sites doors sources sinks first_log IsKept HasFailed Wrote s first last
  is_served Wrote s first last given back old now faults counts exchanges none all right owns rises counted wrote = record {
    log = history now;
    order = right;
    given = given;
    back = back;
    exchanged = exchanges;
    runs = all.runs;
    given_are = all.before;
    back_are = all.after;
    served = all.served;
    each = λ k lt.
        let own = all.own k in
        let one = owns k lt in
        let most = merged_apart (places now) [] rises k in
        let z : times k (places old) ≡ 0 = ap (times k) none in
        omega arith;
    written = subst (λ (z : Counts × ℕ). Wrote (listening_line s.port ++ summary_text z.0 z.1)) (λ i. (counted i, all.total i)) wrote;
  }

-- a service was served so, where more may be said to be kept, or to have failed
module _ {S D K : Type 0} (sites : site.Ghosts S D K) (doors : door.Ghosts D K) (sources : source.Ghosts K) (sinks : sink.Ghosts K)
    (first_log : List LogEntry) (IsKept IsKept' : List (List ℕ) → Type 0) (HasFailed HasFailed' : Type 0) where
  abbrev pub served_wider : ((texts : List (List ℕ)) → IsKept texts → IsKept' texts) → (HasFailed → HasFailed') → (Wrote : List ℕ → Type 0) (s : Service) (first last : S)
      → IsServedOver sites doors sources sinks first_log IsKept HasFailed Wrote s first last
      → IsServedOver sites doors sources sinks first_log IsKept' HasFailed' Wrote s first last
  served_wider kept failed Wrote s first last i = record {
    log = i.log;
    order = i.order;
    given = i.given;
    back = i.back;
    exchanged = i.exchanged;
    runs = i.runs;
    given_are = i.given_are;
    back_are = i.back_are;
    served = λ k d lt. run_later sources sinks first_log IsKept IsKept' HasFailed HasFailed' i.log i.log (λ texts front. kept texts) failed ([], append-nil i.log) i.order doors s.limit _ (i.served k d lt);
    each = i.each;
    written = i.written;
  }
