-- What a line comes to, by its shape: the writes, the tags, the session's label and begin; and that a session outside a
-- level adds nothing inside.
use Rattle.std.proofs.Common.{◌≡◌, ℕ, ◌≤◌, Bool, true, false, List, [], ◌∷◌, ◌++◌, length, take, drop, refl, sym, ap, ◌∙◌, arith, ◌&&◌, ◌||◌, ltb, Some, None, Ok, Option, Result}
use Rattle.std.specs.Prelude.{not, is_none, option_to_list}
use Rattle.std.specs.List.{list_any, list_all}
use Rattle.std.proofs.lemmas.Bool.{false≢true, lt-ltb, ltb-true}
use Rattle.std.proofs.lemmas.Bool.Decides.{nat_tests}
use Rattle.std.proofs.lemmas.List.{length-append}
use Rattle.ifdb_label.specs.Tags.{are_made}
use Rattle.ifdb_label.specs.Label.{flows}
use Rattle.ifdb_row.specs.declared.slot.Slot.{Slot}
use Rattle.ifdb_row.specs.declared.write.Write.{Write}
use Rattle.ifdb_row.specs.Sides.{are_on}
use Rattle.ifdb_row.specs.Verdict.{is_above}
use Rattle.ifdb_value.proofs.Lists.{all_wider}
use Rattle.ifdb_row.proofs.VerdictLaws.{go_is_above}
use Rattle.ifdb_bound.specs.declared.request.Bound.{Bound}
use Rattle.ifdb_bound.specs.declared.request.Bound.TheVariants as bound
use Rattle.ifdb_bound.specs.declared.request.Change.{Change}
use Rattle.ifdb_bound.specs.declared.request.Change.TheVariants as change
use Rattle.ifdb_syntax.specs.declared.request.Request.{Request}
use Rattle.ifdb_wire.specs.declared.fault.Fault.{Fault}
use Rattle.ifdb_catalog.specs.Public.{Public, tags_of}
use Rattle.ifdb_catalog.specs.Binding.{bound as bound_request}
use Rattle.ifdb_catalog.proofs.Made as made_by_binding
use Rattle.ifdb_catalog.proofs.Made.{parents_made}
use Rattle.ifdb_model.specs.Log.{Entry, changes, commits, all_tags, content_of, written_of}
use Rattle.ifdb_model.specs.Session.{Txn, Session, in_txn, seen_in, seen}
use Rattle.ifdb_model.specs.Writes.{Written, writes_of}
use Rattle.ifdb_model.specs.Step.{Reader, Outcome, is_empty, ask}
use Rattle.ifdb_model.specs.Low.{is_inside_slot}
use Rattle.ifdb_laws.proofs.Shapes.{IsWrite, Shape, stayed, greeted_as, relabelled_to, begun, ended, published, joined, wrote, done}
use Rattle.ifdb_row.proofs.LiveLaws.{merged_all}
use Rattle.ifdb_laws.proofs.Sided.{written_all}
use Rattle.ifdb_laws.proofs.Logs.{all_commits, txn_all, begins_within, tags_split}

-- how many tags a log makes
abbrev pub tag_count : List Entry → ℕ
tag_count log = length (all_tags log)

-- a slot is inside, by the tags of a log
abbrev pub side_by : List Entry → List ℕ → Slot → Bool
side_by log level = is_inside_slot (all_tags log) level

-- a session is inside
abbrev pub is_in : List Entry → List ℕ → Session → Bool
is_in log level s = flows (all_tags log) s.label level

-- what a bound request writes, over what its session sees
abbrev pub writes_by : List Entry → Session → ℕ → Bound → Result Written Fault
writes_by log s asker b = writes_of (seen log s).public asker (seen log s).rows s.label b

-- what a line adds to the log, and the log after it
abbrev pub added_by : Reader → List Entry → Session → List ℕ → List Entry
added_by read log s line = option_to_list (ask read log s line).added

abbrev pub log_after : Reader → List Entry → Session → List ℕ → List Entry
log_after read log s line = log ++ added_by read log s line

-- ---- own writes and the writes of a commit pass what the own writes before and the new ones pass

abbrev pub outcome_all : (Write → Bool) → Outcome → Bool
outcome_all q o = txn_all (list_all q) o.session.txn && all_commits (list_all q) (option_to_list o.added)

-- what the line writes, if it asks for a write, passes
abbrev pub PassesWrites : (Write → Bool) → List Entry → Session → Result Request Fault → Type 0
PassesWrites q log s line =
    (asker : ℕ) (r : Request) (b : Bound) → IsWrite log s line asker r b → written_all q (writes_by log s asker b) ≡ true

module _ (q : Write → Bool) (log : List Entry) (s : Session) (line : Result Request Fault) (own : txn_all (list_all q) s.txn ≡ true)
    (new : PassesWrites q log s line) where
  own_writes : (x : Txn) → s.txn ≡ Some x → list_all q x.own ≡ true
  own_writes x t = sym (ap (txn_all (list_all q)) t) ∙ own

  new_writes : (asker : ℕ) (r : Request) (b : Bound) (w : Written) → IsWrite log s line asker r b
      → writes_by log s asker b ≡ Ok w → list_all q w.writes ≡ true
  new_writes asker r b w i e = ap (written_all q) (sym e) ∙ new asker r b i

  pub outcome_writes : (o : Outcome) → Shape log s line o → outcome_all q o ≡ true
  outcome_writes o (stayed r) = grind (arith, nat_tests)
  outcome_writes o (greeted_as n g lt) = grind (arith, nat_tests)
  outcome_writes o (relabelled_to asker r label v e h) = grind (arith, nat_tests)
  outcome_writes o (begun t) = refl
  outcome_writes o (ended b r why) = refl
  outcome_writes o (published asker r c line_is t i e p) = grind (arith, nat_tests)
  outcome_writes o (joined asker r b x w i t e) =
      let all = merged_all q x.own w.writes (own_writes x t) (new_writes asker r b w i e) in grind (arith, nat_tests)
  outcome_writes o (wrote asker r b w i t e d) = let all = new_writes asker r b w i e in grind (arith, nat_tests)
  outcome_writes o (done x t j) = let all = own_writes x t in grind (arith, nat_tests)

-- ---- labels, begins and new tags

-- of so many tags: a tag that a change makes has made parents
abbrev pub is_made_change : ℕ → Change → Bool
is_made_change n (change.Tag asker name kind parents) = are_made n parents
is_made_change n _ = true

change_made : (p : Public) (asker : ℕ) (r : Request) (c : Change) → bound_request p asker r ≡ Ok (bound.Change c) → is_made_change (length (tags_of p)) c ≡ true
change_made p asker r (change.Tag maker name kind parents) e = parents_made p asker r maker name kind parents e
change_made p asker r (change.Principal maker name key clearance) e = refl
change_made p asker r (change.Table maker schema) e = refl
change_made p asker r (change.View view) e = refl
change_made p asker r (change.Grant maker tag to) e = refl
change_made p asker r (change.Revoke maker tag from) e = refl

abbrev pub is_made_entry : ℕ → Option Entry → Bool
is_made_entry n None = true
is_made_entry n (Some (commits ws)) = true
is_made_entry n (Some (changes c)) = is_made_change n c

-- nothing is added, or no transaction is open afterwards
abbrev pub is_free : Outcome → Bool
is_free o = is_none o.added || not (in_txn o.session.txn)

-- where the log has n entries and makes so many tags
pub record IsTidy (n tags : ℕ) (o : Outcome) : Type 0 where
  pub begins : begins_within n o.session.txn ≡ true
  pub free : is_free o ≡ true
  pub entry_made : is_made_entry tags o.added ≡ true
  pub label_made : are_made tags o.session.label ≡ true

pub more_made : (n m : ℕ) (label : List ℕ) → n ≤ m → are_made n label ≡ true → are_made m label ≡ true
more_made n m label le h =
    all_wider (λ t. ltb t n) (λ t. ltb t m) label (λ t e. let lt = ltb-true t n e in lt-ltb t m (omega arith)) h

older_tags : (n : ℕ) (log : List Entry) → length (all_tags (take n log)) ≤ tag_count log
older_tags n log = rw (tags_split n log) (simp length-append (omega arith))

pub seen_tags : (log : List Entry) (o : Option Txn) → length (tags_of (seen_in log o).public) ≤ tag_count log
seen_tags log None = omega arith
seen_tags log (Some x) = older_tags x.begin log

module _ (log : List Entry) (s : Session) (line : Result Request Fault) (begins : begins_within (length log) s.txn ≡ true)
    (made : are_made (tag_count log) s.label ≡ true) where
  pub outcome_tidy : (o : Outcome) → Shape log s line o → IsTidy (length log) (tag_count log) o
  outcome_tidy o (stayed r) = record { begins = begins; free = refl; entry_made = refl; label_made = made }
  outcome_tidy o (greeted_as n g lt) = record { begins = begins; free = refl; entry_made = refl; label_made = made }
  outcome_tidy o (relabelled_to asker r label v e h) = record {
    begins = begins;
    free = refl;
    entry_made = refl;
    label_made =
        more_made (length (tags_of (seen log s).public)) (tag_count log) label (seen_tags log s.txn)
        (made_by_binding.label_made (seen log s).public asker r label e);
  }
  outcome_tidy o (begun t) = record { begins = grind (arith, nat_tests); free = refl; entry_made = refl; label_made = made }
  outcome_tidy o (ended b r why) = record { begins = refl; free = refl; entry_made = refl; label_made = made }
  outcome_tidy o (published asker r c line_is t i e p) = record {
    begins = begins;
    free = ap (λ x. not (in_txn x)) t;
    entry_made = ap (λ x. is_made_change (length (tags_of (seen_in log x).public)) c) (sym t) ∙ change_made (seen log s).public asker r c e;
    label_made = made;
  }
  outcome_tidy o (joined asker r b x w i t e) =
      record { begins = sym (ap (begins_within (length log)) t) ∙ begins; free = refl; entry_made = refl; label_made = made }
  outcome_tidy o (wrote asker r b w i t e d) = record { begins = begins; free = ap (λ x. not (in_txn x)) t; entry_made = refl; label_made = made }
  outcome_tidy o (done x t j) = record { begins = refl; free = refl; entry_made = refl; label_made = made }

-- ---- a session outside a level

-- no public change, and no write on the side
abbrev pub is_hidden : (Slot → Bool) → Option Entry → Bool
is_hidden side None = true
is_hidden side (Some (changes c)) = false
is_hidden side (Some (commits ws)) = are_on (λ s. not (side s)) ws

module _ (level : List ℕ) (log : List Entry) (s : Session) (line : Result Request Fault)
    (trans : (a b c : List ℕ) → flows (all_tags log) a b ≡ true → flows (all_tags log) b c ≡ true → flows (all_tags log) a c ≡ true)
    (out : is_in log level s ≡ false) (new : PassesWrites (λ (w : Write). not (side_by log level w.slot)) log s line) where
  empty_inside : (label : List ℕ) → is_empty label ≡ true → flows (all_tags log) label level ≡ true
  empty_inside [] e = refl
  empty_inside (t ∷ ts) e = absurd (false≢true e)

  -- what lies above a label outside is outside
  above_outside : (ws : List Write) → list_any (is_above (all_tags log) s.label) ws ≡ false → are_on (λ p. not (side_by log level p)) ws ≡ true
  above_outside [] h = refl
  above_outside (w ∷ ws) h = grind (arith, nat_tests, above_outside ws, trans s.label w.slot.label level)

  pub outcome_hidden : (o : Outcome) → Shape log s line o → is_hidden (side_by log level) o.added ≡ true
  outcome_hidden o (stayed r) = refl
  outcome_hidden o (greeted_as n g lt) = refl
  outcome_hidden o (relabelled_to asker r label v e h) = refl
  outcome_hidden o (begun t) = refl
  outcome_hidden o (ended b r why) = refl
  outcome_hidden o (published asker r c line_is t i e p) = absurd (false≢true (sym out ∙ empty_inside s.label i))
  outcome_hidden o (joined asker r b x w i t e) = refl
  outcome_hidden o (wrote asker r b w i t e d) = ap (written_all (λ (v : Write). not (side_by log level v.slot))) (sym e) ∙ new asker r b i
  outcome_hidden o (done x t j) = above_outside x.own (go_is_above (all_tags log) (content_of log) (written_of (drop x.begin log)) x.own s.label j)
