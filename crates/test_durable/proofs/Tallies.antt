-- The records and the sum of a history that is one entry longer.
use Rattle.std.proofs.Common.{◌≡◌, ℕ, ◌+◌, true, false, List, [], ◌∷◌, ◌++◌, sym, ap, ◌∙◌, arith, append_assoc, append-nil}
use Rattle.ifdb_journal.specs.declared.record.Record.{Record}
use Rattle.test_durable.specs.declared.tally.Entry.{Entry}
use Rattle.test_durable.specs.declared.tally.Tally.{Tally}
use Rattle.ifdb_durable.specs.Queues.{all_of}
use Rattle.test_durable.specs.Tally.{TallyStands, entry_of, record_of, records_of, records_in, amounts_of, amount_in}

pub records_more : (h : List Entry) (e : Entry) → records_of (h ++ e ∷ []) ≡ records_of h ++ records_in e.is_look e.amount
records_more [] e = append-nil (records_in e.is_look e.amount)
records_more (x ∷ h) e = ap (λ (l : List Record). records_in x.is_look x.amount ++ l) (records_more h e) ∙ sym (append_assoc (records_in x.is_look x.amount) (records_of h) (records_in e.is_look e.amount))

pub amounts_more : (h : List Entry) (e : Entry) → amounts_of (h ++ e ∷ []) ≡ amounts_of h + amount_in e.is_look e.amount
amounts_more [] e = omega arith
amounts_more (x ∷ h) e = let r = amounts_more h e in omega arith

module _ {B D : Type 0} where
  -- after a look
  pub stands_looked : (tally : Tally B D) (h : List Entry) → TallyStands tally h → TallyStands tally (h ++ entry_of h 0 true ∷ [])
  stands_looked tally h s = let e = entry_of h 0 true in let m = amounts_more h e in let o = s.sum in record {
    sum = omega arith;
    records = s.records ∙ sym (append-nil (records_of h)) ∙ sym (records_more h e);
  }

  -- after an amount came
  pub stands_added : (tally new : Tally B D) (h : List Entry) (amount : ℕ) → TallyStands tally h → new.sum ≡ tally.sum + amount
      → all_of new.queue ≡ all_of tally.queue ++ record_of amount ∷ [] → TallyStands new (h ++ entry_of h amount false ∷ [])
  stands_added tally new h amount s sum all = let e = entry_of h amount false in let m = amounts_more h e in let o = s.sum in record {
    sum = omega arith;
    records = all ∙ ap (λ (l : List Record). l ++ record_of amount ∷ []) s.records ∙ sym (records_more h e);
  }
