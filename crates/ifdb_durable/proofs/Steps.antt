-- Each kind of step keeps the rule.
use Rattle.std.proofs.Common.{◌≡◌, ◌≢◌, ℕ, zero, suc, true, List, [], ◌∷◌, ◌++◌, eqb, length, get_or, set, sym, refl, ap, ◌∙◌, subst, arith}
use mathlib.Core.Option.{some, none, some-ne-none}
use mathlib.Core.Option as maybe
use mathlib.Core.List.{IsPrefix}
use lib.ListN.{get_elem?}
use prog.Atomic.{either}
use Rattle.atomic_table.specs.Table.{State, Me, step, keeps, stepped, Allows, Splits, Joins}
use Rattle.atomic_table.proofs.Lists.{set_again, set_else, exchanged}
use Rattle.ifdb_turn.specs.Views.{AtMostOne}
use Rattle.ifdb_turn.proofs.ViewLemmas.{each_set, each_snoc, pair_snoc, no_truth}
use Rattle.ifdb_journal.specs.declared.record.Record.{Record}
use Rattle.ifdb_durable.specs.declared.view.Flush.{Flush}
use Rattle.ifdb_durable.specs.declared.view.Hand.{Hand}
use Rattle.ifdb_durable.specs.declared.view.Told.{Told}
use Rattle.ifdb_durable.specs.declared.view.View.{View}
use Rattle.ifdb_durable.specs.Told.{Begins, nothing, opener, reader, kept_by}
use Rattle.ifdb_durable.specs.Rule.{flag, words_of, Agrees, Ruled}
use Rattle.ifdb_durable.specs.Kinds.{said_records, told_by, looked, looked_for_failure, took, advanced, failed, as_reader, as_writer, as_queue, met, hears, spent}
use Rattle.ifdb_durable.proofs.Begins.{prefix_all, prefix_more, kept_more, begins_all, begins_none, begins_on}

module _ {D : Type 0} where
  -- of a fact of at most one view: a set that doesn't bring it
  one_set : (P : View D → Type 0) (views : List (View D)) (id : ℕ) (v w : View D) → get_elem? views id ≡ some v → (P w → P v)
      → AtMostOne views P → AtMostOne (set views id w) P
  one_set P views id v w at back old i j u x a b p q = each_set (λ i u. P u → i ≡ j) views id w
      (λ p. each_set (λ j x. P x → id ≡ j) views id w (λ _. refl) (λ j x ne e q. old id j v x at e (back p) q) j x b q)
      (λ i u ne e p. each_set (λ j x. P x → i ≡ j) views id w (λ q. old i id u v e at p (back q)) (λ j x _ e' q. old i j u x e e' p q) j x b q)
      i u a p

  last_at : (P : View D → Type 0) (l : List (View D)) (w u : View D) (i : ℕ) → ((j : ℕ) (u : View D) → get_elem? l j ≡ some u → P u → ⊥)
      → get_elem? (l ++ w ∷ []) i ≡ some u → P u → i ≡ length l
  last_at P [] w u zero none_ a p = refl
  last_at P [] w u (suc i) none_ a p = absurd (some-ne-none u (sym a))
  last_at P (x ∷ xs) w u zero none_ a p = absurd (none_ 0 u a p)
  last_at P (x ∷ xs) w u (suc i) none_ a p = let r = last_at P xs w u i (λ j y e q. none_ (suc j) y e q) a p in omega arith

  -- a new view that has it, where no other has
  one_new : (P : View D → Type 0) (views : List (View D)) (w : View D) → ((j : ℕ) (u : View D) → get_elem? views j ≡ some u → P u → ⊥)
      → AtMostOne (views ++ w ∷ []) P
  one_new P views w none_ i j u x a b p q = last_at P views w u i none_ a p ∙ sym (last_at P views w x j none_ b q)

  -- no other seat is that of the queue, or of the writer
  alone : (P : View D → Type 0) (views : List (View D)) (id : ℕ) (v : View D) → get_elem? views id ≡ some v → P v → AtMostOne views P
      → (j : ℕ) (u : View D) → j ≢ id → get_elem? views j ≡ some u → P u → ⊥
  alone P views id v at p one_ j u ne e q = ne (one_ j id u v e at q p)

  -- ---- what one seat knows

  -- one that only looks
  agrees_plain : (taken : List Record) (told known : Told D) → Begins known told → Agrees taken told (reader known)
  agrees_plain taken told known seen = record {
    seen = seen;
    heard = begins_none told;
    queue = λ e. absurd (no_truth e);
    writer = λ e. absurd (no_truth e);
    both = λ e _. absurd (no_truth e);
  }

  -- one that is not the writer's goes on to know what it knew, when more can be told
  agrees_on : (taken later : List Record) (told more : Told D) (u : View D) → Begins told more → (u.is_queue ≡ true → u.taken ≡ later) → (u.is_writer ≡ true → ⊥)
      → Agrees taken told u → Agrees later more u
  agrees_on taken later told more u grows queue not_writer a = record {
    seen = begins_on u.told told more a.seen grows;
    heard = begins_on u.heard told more a.heard grows;
    queue = queue;
    writer = λ e. absurd (not_writer e);
    both = λ _ e. absurd (not_writer e);
  }

  -- ---- steps on a word

  -- a seat's view changes by a step, with no slot
  stepped_rule : (s : State (Hand D) (View D)) (r : Ruled s) (place n id : ℕ) (cs : List (ℕ × Hand D)) (v w : View D) (taken : List Record) (told : Told D)
      → get_elem? s.views id ≡ some v → set s.words place n ≡ words_of told → IsPrefix (kept_by told) taken → Agrees taken told w
      → (w.is_queue ≡ true → v.is_queue ≡ true) → (w.is_writer ≡ true → v.is_writer ≡ true)
      → ((j : ℕ) (u : View D) → j ≢ id → get_elem? s.views j ≡ some u → Agrees taken told u)
      → Ruled (stepped s place n id cs w keeps)
  stepped_rule s r place n id cs v w taken told at words front mine back_q back_w others = record {
    taken = taken;
    told = told;
    front = front;
    words = words;
    views = each_set (λ j u. Agrees taken told u) s.views id w mine others;
    one_queue = one_set (λ u. u.is_queue ≡ true) s.views id v w at back_q r.one_queue;
    one_writer = one_set (λ u. u.is_writer ≡ true) s.views id v w at back_w r.one_writer;
  }

  -- a load of a word, which says something of what can be told
  loads : (place : ℕ) (word : Told D → ℕ) → ((t : Told D) → get_or (words_of t) place 0 ≡ word t) → ((t : Told D) → set (words_of t) place (get_or (words_of t) place 0) ≡ words_of t)
      → (slots id : ℕ) (me : Me (Hand D) (View D)) → Allows Ruled slots id me place (λ x. x) (told_by word (step slots place 0 0 none) me)
  loads place word reads same slots id me s r _ at _ =
      let w : View D = record me.0 { told = r.told } in
      let mine = r.views id me.0 at in (
        w,
        keeps,
        tt,
        stepped_rule s r place (get_or s.words place 0) id me.1 me.0 w r.taken r.told at (ap (λ (ws : List ℕ). set ws place (get_or ws place 0)) r.words ∙ same r.told) r.front
            record { seen = begins_all r.told; heard = mine.heard; queue = mine.queue; writer = λ e. ((mine.writer e).0, refl); both = mine.both }
            (λ e. e) (λ e. e) (λ j u _ e. r.views j u e),
        (r.told, mine.seen, mine.heard, ap (λ (ws : List ℕ). get_or ws place 0) r.words ∙ reads r.told, refl, (λ e. sym (mine.writer e).1), λ q w. mine.both q w ∙ sym (mine.writer w).0),
      )

  pub looks : (slots id : ℕ) (me : Me (Hand D) (View D)) → Allows Ruled slots id me 0 (λ x. x) (looked (step slots 0 0 0 none) me)
  looks slots id me = loads 0 (λ told. length (kept_by told)) (λ _. refl) (λ _. refl) slots id me

  pub looks_for_failure : (slots id : ℕ) (me : Me (Hand D) (View D)) → Allows Ruled slots id me 1 (λ x. x) (looked_for_failure (step slots 1 0 0 none) me)
  looks_for_failure slots id me = loads 1 (λ told. flag told.has_failed) (λ _. refl) (λ _. refl) slots id me

  -- some records were taken, by the seat of both
  pub takes : (slots id n : ℕ) (me : Me (Hand D) (View D)) (said : maybe.Option (Hand D)) → me.0.is_queue ≡ true → me.0.is_writer ≡ true
      → Allows Ruled slots id me 0 (λ x. either (eqb x n) n x) (took (step slots 0 n n said) me)
  takes slots id n me said queue writer s r _ at _ =
      let more : List Record = said_records said in
      let mine = r.views id me.0 at in
      let knows = mine.writer writer in
      let w : View D = record me.0 { taken = me.0.taken ++ more; other = me.0.taken ++ more } in
      let taken : List Record = r.taken ++ more in
      let is : me.0.taken ++ more ≡ taken = ap (λ l. l ++ more) knows.0 in
      let x : ℕ = get_or s.words 0 0 in
      let grown : Ruled (stepped s 0 x id me.1 w keeps) =
      stepped_rule s r 0 x id me.1 me.0 w taken r.told at (ap (λ (ws : List ℕ). set ws 0 (get_or ws 0 0)) r.words) (prefix_more (kept_by r.told) r.taken more r.front)
      record { seen = mine.seen; heard = mine.heard; queue = λ _. is; writer = λ _. (is, knows.1); both = λ _ _. is }
      (λ e. e) (λ e. e)
      (λ j u ne e. agrees_on r.taken taken r.told r.told u (begins_all r.told)
      (λ q. absurd (alone (λ u. u.is_queue ≡ true) s.views id me.0 at queue r.one_queue j u ne e q))
      (alone (λ u. u.is_writer ≡ true) s.views id me.0 at writer r.one_writer j u ne e) (r.views j u e)) in (
        w,
        keeps,
        tt,
        exchanged x n n (λ k. Ruled (stepped s 0 k id me.1 w keeps)) (λ e. subst (λ k. Ruled (stepped s 0 k id me.1 w keeps)) e grown) (λ _. grown),
        (mine.both queue writer ∙ sym knows.0, refl),
      )

  -- an append was answered, by the seat of the writer, which knows the word
  pub advances : (slots id old n : ℕ) (me : Me (Hand D) (View D)) (hand : Hand D) → me.0.is_writer ≡ true → old ≡ length (kept_by me.0.told) → n ≡ length me.0.taken
      → Allows Ruled slots id me 0 (λ x. either (eqb x old) n x) (advanced (step slots 0 old n (some hand)) me)
  advances slots id old n me hand writer was is s r _ at _ =
      let mine = r.views id me.0 at in
      let knows = mine.writer writer in
      let e : Flush D = record { disk = hand.disk; kept = me.0.taken } in
      let told : Told D = record me.0.told { flushes = me.0.told.flushes ++ e ∷ [] } in
      let w : View D = record me.0 { told = told } in
      let last : kept_by told ≡ me.0.taken = kept_more [] me.0.told.flushes e in
      let whole : IsPrefix (kept_by told) r.taken = subst (IsPrefix (kept_by told)) (last ∙ knows.0) (prefix_all (kept_by told)) in
      let longer : Begins me.0.told told = (prefix_more me.0.told.flushes me.0.told.flushes (e ∷ []) (prefix_all me.0.told.flushes), λ b. b) in
      let grows : Begins r.told told = subst (λ (t : Told D). Begins t told) knows.1 longer in
      let x : ℕ = get_or s.words 0 0 in
      let hit : x ≡ old = ap (λ (ws : List ℕ). get_or ws 0 0) r.words ∙ ap (λ (t : Told D). length (kept_by t)) (sym knows.1) ∙ sym was in
      let words : set s.words 0 n ≡ words_of told =
      ap (λ (ws : List ℕ). set ws 0 n) r.words ∙ ap (λ (t : Told D). n ∷ flag t.has_failed ∷ []) (sym knows.1) ∙ ap (λ k. k ∷ flag told.has_failed ∷ []) (is ∙ ap length (sym last)) in
      let done : Ruled (stepped s 0 n id me.1 w keeps) =
      stepped_rule s r 0 n id me.1 me.0 w r.taken told at words whole
      record { seen = begins_all told; heard = begins_on me.0.heard r.told told mine.heard grows; queue = mine.queue; writer = λ _. (knows.0, refl); both = mine.both }
      (λ e. e) (λ e. e)
      (λ j u ne e. agrees_on r.taken r.taken r.told told u grows (r.views j u e).queue
      (alone (λ u. u.is_writer ≡ true) s.views id me.0 at writer r.one_writer j u ne e) (r.views j u e)) in (
        w,
        keeps,
        tt,
        exchanged x old n (λ k. Ruled (stepped s 0 k id me.1 w keeps)) (λ _. done) (λ ne. absurd (ne hit)),
        refl,
      )

  -- the disk has failed, by the seat of the writer
  pub fails : (slots id : ℕ) (me : Me (Hand D) (View D)) → me.0.is_writer ≡ true
      → Allows Ruled slots id me 1 (λ _. 1) (λ _. failed (step slots 1 1 0 none) me 1)
  fails slots id me writer s r _ at _ =
      let mine = r.views id me.0 at in
      let knows = mine.writer writer in
      let told : Told D = record me.0.told { has_failed = true } in
      let w : View D = record me.0 { told = told } in
      let later : Begins me.0.told told = (prefix_all me.0.told.flushes, λ _. refl) in
      let grows : Begins r.told told = subst (λ (t : Told D). Begins t told) knows.1 later in
      let words : set s.words 1 1 ≡ words_of told = ap (λ (ws : List ℕ). set ws 1 1) r.words ∙ ap (λ (t : Told D). length (kept_by t) ∷ 1 ∷ []) (sym knows.1) in
      let front : IsPrefix (kept_by told) r.taken = subst (λ (t : Told D). IsPrefix (kept_by t) r.taken) (sym knows.1) r.front in (
        w,
        keeps,
        tt,
        stepped_rule s r 1 1 id me.1 me.0 w r.taken told at words front
            record { seen = begins_all told; heard = begins_on me.0.heard r.told told mine.heard grows; queue = mine.queue; writer = λ _. (knows.0, refl); both = mine.both }
            (λ e. e) (λ e. e)
            (λ j u ne e. agrees_on r.taken r.taken r.told told u grows (r.views j u e).queue
            (alone (λ u. u.is_writer ≡ true) s.views id me.0 at writer r.one_writer j u ne e) (r.views j u e)),
        refl,
      )

  each_one : (P : View D → Type 0) → P opener → (j : ℕ) (v : View D) → get_elem? (opener ∷ []) j ≡ some v → P v
  each_one P p j v e = each_snoc P [] opener p (λ j v e. absurd (some-ne-none v (sym e))) j v e

  -- the first table
  pub opens : Ruled {D = D} record { words = 0 ∷ 0 ∷ []; homes = []; views = opener ∷ [] }
  opens = record {
    taken = [];
    told = nothing;
    front = ([], refl);
    words = refl;
    views = each_one (Agrees [] nothing) record { seen = begins_all nothing; heard = begins_all nothing; queue = λ _. refl; writer = λ _. (refl, refl); both = λ _ _. refl };
    one_queue = one_new (λ v. v.is_queue ≡ true) [] opener (λ j u e. absurd (some-ne-none u (sym e)));
    one_writer = one_new (λ v. v.is_writer ≡ true) [] opener (λ j u e. absurd (some-ne-none u (sym e)));
  }

  -- ---- two seats

  -- a new seat is told as much, and is neither the queue's nor the writer's
  pub reads : (id : ℕ) (v : View D) → Splits Ruled id v v (as_reader v)
  reads id v s r at = subst (λ l. Ruled record { words = s.words; homes = s.homes; views = l ++ as_reader v ∷ [] }) (sym (set_again s.views id v at)) record {
    taken = r.taken;
    told = r.told;
    front = r.front;
    words = r.words;
    views = each_snoc (Agrees r.taken r.told) s.views (as_reader v) (agrees_plain r.taken r.told v.told (r.views id v at).seen) r.views;
    one_queue = pair_snoc (λ u. u.is_queue ≡ true) s.views (as_reader v) no_truth r.one_queue;
    one_writer = pair_snoc (λ u. u.is_writer ≡ true) s.views (as_reader v) no_truth r.one_writer;
  }

  -- the seat of both becomes two
  pub parts : (id : ℕ) (v : View D) → v.is_queue ≡ true → v.is_writer ≡ true → Splits Ruled id v (as_writer v) (as_queue v)
  parts id v queue writer s r at =
      let mine = r.views id v at in
      let knows = mine.writer writer in
      let none = begins_none r.told in
      let L : View D = as_writer v in let N : View D = as_queue v in let V : List (View D) = set s.views id L in
      let left : Agrees r.taken r.told L = record { seen = mine.seen; heard = none; queue = λ e. absurd (no_truth e); writer = λ _. knows; both = λ e _. absurd (no_truth e) } in
      let right : Agrees r.taken r.told N = record { seen = mine.seen; heard = none; queue = λ _. knows.0; writer = λ e. absurd (no_truth e); both = λ _ e. absurd (no_truth e) } in record {
        taken = r.taken;
        told = r.told;
        front = r.front;
        words = r.words;
        views = each_snoc (Agrees r.taken r.told) V N right (each_set (λ j u. Agrees r.taken r.told u) s.views id L left (λ j u _ e. r.views j u e));
        one_queue = one_new (λ u. u.is_queue ≡ true) V N (each_set (λ j u. u.is_queue ≡ true → ⊥) s.views id L no_truth (alone (λ u. u.is_queue ≡ true) s.views id v at queue r.one_queue));
        one_writer = pair_snoc (λ u. u.is_writer ≡ true) V N no_truth (one_set (λ u. u.is_writer ≡ true) s.views id v L at (λ _. writer) r.one_writer);
      }

  one_moved : (P : View D → Type 0) (l : List (View D)) (other : ℕ) (z : View D) (id : ℕ)
      → ((j : ℕ) (u : View D) → j ≢ other → get_elem? l j ≡ some u → P u → j ≡ id) → (P z → ⊥) → AtMostOne (set l other z) P
  one_moved P l other z id all_at none_ i j u x a b p q =
      let at : (k : ℕ) (y : View D) → get_elem? (set l other z) k ≡ some y → P y → k ≡ id = λ k y e. each_set (λ k y. P y → k ≡ id) l other z (λ p. absurd (none_ p)) (λ k y ne e p. all_at k y ne e p) k y e in
      at i u a p ∙ sym (at j x b q)

  -- two views change: that of the seat, and that of the one that is spent
  both_set : (taken : List Record) (told : Told D) (views : List (View D)) (id other : ℕ) (w : View D) → Agrees taken told w
      → ((j : ℕ) (u : View D) → get_elem? views j ≡ some u → Agrees taken told u)
      → (j : ℕ) (u : View D) → get_elem? (set (set views id w) other spent) j ≡ some u → Agrees taken told u
  both_set taken told views id other w mine others =
      each_set (λ j u. Agrees taken told u) (set views id w) other spent (agrees_plain taken told nothing (begins_none told))
      (λ j u _ e. each_set (λ j u. Agrees taken told u) views id w mine (λ j u _ e. others j u e) j u e)

  -- two seats become the seat of both
  pub meets : (id : ℕ) (v : View D) (other : ℕ) (w : View D) → v.is_writer ≡ true → w.is_queue ≡ true → Joins Ruled id v other w (met v w) spent
  meets id v other w writer queue s r at apart there_ =
      let B : View D = met v w in let V : List (View D) = set s.views id B in
      let there : get_elem? s.views other ≡ some w = sym (set_else s.views id other B apart) ∙ there_ in
      let mine = r.views id v at in
      let knows = mine.writer writer in
      let his : w.taken ≡ r.taken = (r.views other w there).queue queue in record {
        taken = r.taken;
        told = r.told;
        front = r.front;
        words = r.words;
        views = both_set r.taken r.told s.views id other B record { seen = mine.seen; heard = begins_none r.told; queue = λ _. knows.0; writer = λ _. knows; both = λ _ _. his } r.views;
        one_queue = one_moved (λ u. u.is_queue ≡ true) V other spent id (λ j u ne e q. each_set (λ j u. j ≢ other → u.is_queue ≡ true → j ≡ id) s.views id B (λ _ _. refl) (λ j u ne' e ne q. absurd (alone (λ u. u.is_queue ≡ true) s.views other w there queue r.one_queue j u ne e q)) j u e ne q) no_truth;
        one_writer = one_set (λ u. u.is_writer ≡ true) V other w spent there_ (λ e. absurd (no_truth e)) (one_set (λ u. u.is_writer ≡ true) s.views id v B at (λ _. writer) r.one_writer);
      }

  -- a seat hears what another one was told, which is spent
  pub heard_of : (id : ℕ) (v : View D) (other : ℕ) (w : View D) → Joins Ruled id v other w (hears v w) spent
  heard_of id v other w s r at apart there_ =
      let B : View D = hears v w in let V : List (View D) = set s.views id B in
      let there : get_elem? s.views other ≡ some w = sym (set_else s.views id other B apart) ∙ there_ in
      let mine = r.views id v at in record {
        taken = r.taken;
        told = r.told;
        front = r.front;
        words = r.words;
        views = both_set r.taken r.told s.views id other B record { seen = mine.seen; heard = (r.views other w there).seen; queue = mine.queue; writer = mine.writer; both = mine.both } r.views;
        one_queue = one_set (λ u. u.is_queue ≡ true) V other w spent there_ (λ e. absurd (no_truth e)) (one_set (λ u. u.is_queue ≡ true) s.views id v B at (λ e. e) r.one_queue);
        one_writer = one_set (λ u. u.is_writer ≡ true) V other w spent there_ (λ e. absurd (no_truth e)) (one_set (λ u. u.is_writer ≡ true) s.views id v B at (λ e. e) r.one_writer);
      }
