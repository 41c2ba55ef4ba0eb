-- The next call begins where a crash left this one.
use Rattle.std.proofs.Common.{◌≡◌, ℕ, zero, suc, ◌≤◌, Bool, true, false, not, ◌&&◌, List, [], ◌∷◌, ◌++◌, length, take, map, refl, sym, ap, subst, ◌∙◌, arith, cond, inl, inr}
use Rattle.std.specs.Prelude.{◌⊎◌, Result, Ok, Err, Option, Some, None}
use Rattle.std.proofs.Math.Seq.{take-nil}
use Rattle.std.proofs.lemmas.List.{append-nil}
use Rattle.ifdb_journal.specs.declared.record.Record.{Record}
use Rattle.ifdb_syntax.specs.declared.request.Request.{Request}
use Rattle.ifdb_parse.specs.declared.fault.ParseFault.{ParseFault}
use Rattle.ifdb_parse.specs.Parsed.{parsed}
use Rattle.ifdb_model.specs.Session.{closed}
use Rattle.ifdb_model.specs.Step.{Reader}
use Rattle.ifdb_model.specs.Run.{State, Step, opens, asks, refused, long, stray, leaves, session_of, with_session, opening, next, run}
use Rattle.ifdb_replay.specs.Replay.{open_from, all_leave, opened, asked, records_of, replayed, kept, StayIn, ReplayGoesOn}
use Rattle.ifdb_replay.specs.FirstWord.{only_looks, told_by as told_so, reads, KeptReplays}
use Rattle.ifdb_db.specs.Reading.{read_line, line_fault, request_or_fault}
use Rattle.ifdb_keep.specs.Numbered.{shifted, records_from}
use Rattle.ifdb_keep.specs.Resumed.{restarted, restart_of, front_of, begun, base_of}
use Rattle.ifdb_keep.specs.Taken.{state_by, records_by}
use Rattle.ifdb_keep.specs.Acknowledged.{NextKeepGoesOn, NextKeepIsWhole}
use Rattle.ifdb_journal.specs.Records.{damage}

-- ---- the lines are read by the grammar

same_answer : (o : Result Request ParseFault) → told_so line_fault o ≡ request_or_fault o
same_answer (Ok r) = refl
same_answer (Err f) = refl

same_reader : reads line_fault ≡ read_line
same_reader = λ i line. same_answer (parsed line) i

-- what is kept behind records, by these
abbrev KeptBy : Reader → Type 0
KeptBy read = (st : State) (before : List Record) (steps : List Step) → StayIn steps
    → replayed read st (before ++ kept only_looks read (replayed read st before) steps) ≡ run read (replayed read st before) steps

kept_here : KeptReplays → KeptBy read_line
kept_here law = subst KeptBy same_reader (law line_fault)

-- ---- the first of some steps have the first of their records

one_or_none : (b : Bool) (n : ℕ) (line : List ℕ) → (cond b (asked n line ∷ []) [] ≡ []) ⊎ ((e : Record) × (cond b (asked n line ∷ []) [] ≡ e ∷ []))
one_or_none true n line = inr (asked n line, refl)
one_or_none false n line = inl refl

few : (st : State) (x : Step) → (records_of only_looks st x ≡ []) ⊎ ((e : Record) × (records_of only_looks st x ≡ e ∷ []))
few st opens = inr (opened, refl)
few st (asks n line) = one_or_none ((session_of st n).is_open && not (only_looks line)) n line
few st (refused n) = inl refl
few st long = inl refl
few st stray = inl refl
few st (leaves n) = inl refl

-- the most of the steps whose records are among the first, so many
record Front (base : ℕ) (st : State) (steps : List Step) (n : ℕ) : Type 0 where
  m : ℕ
  same : take n (records_from read_line st base steps) ≡ records_from read_line st base (take m steps)
  most : (k : ℕ) → length (records_from read_line st base (take k steps)) ≤ n → k ≤ length steps → k ≤ m

front : (base : ℕ) (st : State) (steps : List Step) (n : ℕ) → Front base st steps n
front base st [] n = record { m = 0; same = take-nil n; most = λ k le short. omega (arith, short) }
front base st (x ∷ steps) n = by (few st (shifted base x)) (front base (next read_line st (shifted base x)) steps) where
  after : State
  after = next read_line st (shifted base x)

  here : List Record
  here = records_of only_looks st (shifted base x)

  silent : here ≡ [] → Front base after steps n → Front base st (x ∷ steps) n
  silent none f = record {
    m = suc f.m;
    same = ap (λ (l : List Record). take n (l ++ records_from read_line after base steps)) none ∙ f.same ∙ ap (λ (l : List Record). l ++ records_from read_line after base (take f.m steps)) (sym none);
    most = most;
  } where
    most : (k : ℕ) → length (records_from read_line st base (take k (x ∷ steps))) ≤ n → k ≤ length (x ∷ steps) → k ≤ suc f.m
    most zero le short = omega arith
    most (suc k) le short =
        let le_too : length (records_from read_line after base (take k steps)) ≤ n = subst (λ (l : List Record). length (l ++ records_from read_line after base (take k steps)) ≤ n) none le in
        let up = f.most k le_too (omega (arith, short)) in
        omega (arith, up)

  spoken : (e : Record) → here ≡ e ∷ [] → (n : ℕ) → ((n : ℕ) → Front base after steps n) → Front base st (x ∷ steps) n
  spoken e is zero f = record { m = 0; same = refl; most = most } where
    most : (k : ℕ) → length (records_from read_line st base (take k (x ∷ steps))) ≤ 0 → k ≤ length (x ∷ steps) → k ≤ 0
    most zero le short = omega arith
    most (suc k) le short =
        let le_too : length (e ∷ records_from read_line after base (take k steps)) ≤ 0 = subst (λ (l : List Record). length (l ++ records_from read_line after base (take k steps)) ≤ 0) is le in
        absurd (omega (arith, le_too))
  spoken e is (suc n) fs = record {
    m = suc f.m;
    same = ap (λ (l : List Record). take (suc n) (l ++ records_from read_line after base steps)) is ∙ ap (λ (l : List Record). e ∷ l) f.same
        ∙ ap (λ (l : List Record). l ++ records_from read_line after base (take f.m steps)) (sym is);
    most = most;
  } where
    f : Front base after steps n
    f = fs n

    most : (k : ℕ) → length (records_from read_line st base (take k (x ∷ steps))) ≤ suc n → k ≤ length (x ∷ steps) → k ≤ suc f.m
    most zero le short = omega arith
    most (suc k) le short =
        let le_too : length (e ∷ records_from read_line after base (take k steps)) ≤ suc n = subst (λ (l : List Record). length (l ++ records_from read_line after base (take k steps)) ≤ suc n) is le in
        let up = f.most k (omega (arith, le_too)) (omega (arith, short)) in
        omega (arith, up)

  by : (here ≡ []) ⊎ ((e : Record) × (here ≡ e ∷ [])) → ((n : ℕ) → Front base after steps n) → Front base st (x ∷ steps) n
  by (inl none) fs = silent none (fs n)
  by (inr some) fs = spoken some.0 some.1 n fs

stays : (base m : ℕ) (steps : List Step) → StayIn steps → StayIn (map (shifted base) (take m steps))
stays base zero steps stay = tt
stays base (suc m) [] stay = tt
stays base (suc m) (opens ∷ steps) stay = stays base m steps stay
stays base (suc m) (asks n line ∷ steps) stay = stays base m steps stay
stays base (suc m) (refused n ∷ steps) stay = stays base m steps stay
stays base (suc m) (long ∷ steps) stay = stays base m steps stay
stays base (suc m) (stray ∷ steps) stay = stays base m steps stay
stays base (suc m) (leaves n ∷ steps) stay = absurd stay

-- ---- a restart leaves the log

left_log : (st : State) (n : ℕ) (b : Bool) → (cond b (with_session st n (closed (session_of st n))) st).log ≡ st.log
left_log st n true = refl
left_log st n false = refl

leaves_log : (st : State) (ns : List ℕ) → (run read_line st (all_leave ns)).log ≡ st.log
leaves_log st [] = refl
leaves_log st (n ∷ ns) = leaves_log (next read_line st (leaves n)) ns ∙ left_log st n (session_of st n).is_open

restart_log : (st : State) (rs : List Record) → (replayed read_line st (restart_of rs)).log ≡ st.log
restart_log st [] = refl
restart_log st (r ∷ rs) =
    ap (λ (ss : List Step). (run read_line st ss).log) (append-nil (all_leave (open_from 1 st.sessions))) ∙ leaves_log st (open_from 1 st.sessions)

pub follows : ReplayGoesOn → KeptReplays → NextKeepGoesOn
follows goes law rs steps n stay =
    let f = front (base_of rs) (begun rs) steps n in
    let all = front_of rs ++ take n (records_by rs steps) in
    let run_is : replayed read_line opening (front_of rs ++ records_by rs (take f.m steps)) ≡ state_by rs (take f.m steps) =
    kept_here law opening (front_of rs) (map (shifted (base_of rs)) (take f.m steps)) (stays (base_of rs) f.m steps stay) in (
      f.m,
      f.same,
      ap (λ (st : State). st.log) (goes read_line opening all (restart_of all))
          ∙ restart_log (replayed read_line opening all) all
          ∙ ap (λ (l : List Record). (replayed read_line opening (front_of rs ++ l)).log) f.same
          ∙ ap (λ (st : State). st.log) run_is,
      f.most,
    )

-- ---- the next call isn't refused

whole_or_not : (bytes : List ℕ) (at : ℕ) → damage bytes ≡ None → damage bytes ≡ Some at → ⊥
whole_or_not bytes at whole broken =
    let both : None ≡ Some at = sym whole ∙ broken in
    cc both

pub next_is_whole : NextKeepIsWhole
next_is_whole rs more disk (inl reads) at breaks = whole_or_not disk.now.bytes at reads.whole breaks
next_is_whole rs more disk (inr reads) at breaks = whole_or_not disk.now.bytes at reads.1.whole breaks
