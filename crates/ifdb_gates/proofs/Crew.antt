-- Workers of gates: hired, sent out, and joined.
use Rattle.std.proofs.Common.{◌≡◌, ◌≤◌, ◌+◌, ◌-◌, ℕ, suc, List, [], ◌∷◌, ◌++◌, map, length, All, sym, refl, ap, ◌∙◌, subst, arith, append-nil, append_assoc, length-append}
use Rattle.std.specs.Borrow.{Bor}
use Rattle.std.proofs.lemmas.List.{map-append, length-map}
use Rattle.std.proofs.lemmas.List.Elements.{All-append, All-head, All-tail, All-cons, All-weaker}
use mathlib.Core.List.{IsPrefix}
use Rattle.ifdb_turn.specs.declared.turnstile.Turnstile.{Turnstile}
use Rattle.ifdb_turn.specs.declared.turnstile.Pass.{Pass}
use Rattle.ifdb_turn.specs.Passes.{history, places, shares, BelongsTo, IsOrderly}
use Rattle.ifdb_turn.specs.Places.{merge, RisesFrom, LiesBelow}
use Rattle.ifdb_turn.specs.Histories.{AllRight}
use Rattle.ifdb_history.specs.declared.entry.Entry.{Entry}
use Rattle.ifdb_history.specs.History.{IsRight}
use Rattle.ifdb_keyed.specs.declared.admin_key.AdminKey.{AdminKey}
use Rattle.ifdb_keyed.specs.Keys.{key_bytes}
use Rattle.ifdb_loop.specs.declared.gate.Gate as gate
use Rattle.ifdb_loop.specs.declared.port.Port as port
use Rattle.ifdb_pool.specs.Work.{AllWorked}
use Rattle.ifdb_session.specs.declared.records.Records as recorder
use Rattle.ifdb_session.specs.declared.settles.Settles as settler
use Rattle.ifdb_session.specs.declared.shared.SharedRoom.{SharedRoom}
use Rattle.ifdb_session.specs.Acknowledged.{KnowsKept}
use Rattle.ifdb_session.specs.Passes.{Sees}
use Rattle.ifdb_session.specs.Starts.{start_of}
use Rattle.ifdb_session.proofs.Passes.{prefix-trans}
use Rattle.ifdb_desk.specs.Opened.{opened_in}
use Rattle.ifdb_desk.proofs.Opening.{opened_later}
use Rattle.ifdb_service.specs.Workers.{HoldLaws, HasMore, GoesOnWithout}
use Rattle.ifdb_gates.specs.Work.{CanServe, IsNewGate}
use Rattle.ifdb_gates.specs.Crew.{desk_of, desks, DeskWorker, Ran, IsFresh, Hiring, IsHome, AllHome, Joining}
use Rattle.ifdb_gates.specs.Served.{Run, IsRunIn, ServedAll, times_in}
use Rattle.ifdb_gates.proofs.Later.{run_later}
use Rattle.ifdb_gates.proofs.Merging.{opened_nothing, times_merged, times_in_order, numbers_more}

all_snoc : {X : Type 0} (P : X → Type 0) (xs : List X) (x : X) → All P xs → P x → All P (xs ++ x ∷ [])
all_snoc P xs x all one = All-append P xs (x ∷ []) all (All-cons P x [] one (λ k d lt. absurd (omega arith)))

-- ---- workers are hired

module _ {G P R Q S : Type 0} (recorders : recorder.Ghosts Q) (settlers : settler.Ghosts S Q) (gates : gate.Ghosts G P) (hall : Turnstile (SharedRoom Q) Entry) (key : AdminKey) (limit : ℕ) (first : S) where
  -- nobody is hired yet
  pub not_hired : (pass : Pass (SharedRoom Q) Entry) (given rest : List G) (ws : List (DeskWorker G R Q S)) (room means : ℕ) → HoldLaws settlers → rest ≡ given
      → BelongsTo hall pass → settlers.ready first → HasMore settlers first (length given) → All (IsNewGate gates) given → ws ≡ [] → length given ≤ room → means ≡ length given
      → Hiring recorders settlers gates hall key limit first pass pass first given ws rest room means
  not_hired pass given rest ws room means laws same belongs ready more new none fits supplied =
      let len : length ws ≡ 0 = ap length none in
      subst (λ l. Hiring recorders settlers gates hall key limit first pass pass first given ws l room means) (sym same) (record {
        belongs = belongs;
        share = omega arith;
        keeper_left = record { ready = ready; knows = laws.itself first; shares = record { all = more.0; left = more.0; had = more.1; has = more.1; lacks = omega arith } };
        keeper_more = more.2;
        taken = ap (λ l. map (λ w. w.gate) l ++ given) none;
        fresh = subst (All (IsFresh recorders settlers gates hall key limit first)) (sym none) (λ k d lt. absurd (omega (arith, lt)));
        new = new;
        fits = omega arith;
        supplied = supplied;
        seen = refl;
        own = refl;
      })

  -- a share more can be split off for the next gate
  pub can_split : (old now : Pass (SharedRoom Q) Entry) (keeper : S) (given : List G) (ws : List (DeskWorker G R Q S)) (d : G) (rs rest : List G) (room means : ℕ)
      → rs ≡ d ∷ rest → Hiring recorders settlers gates hall key limit first old now keeper given ws rs room means → (n : ℕ) × settlers.has_shares keeper (n + 2)
  can_split old now keeper given ws d rs rest room means gone h =
      let len : length rs ≡ length rest + 1 = ap length gone ∙ omega arith in
      let more = h.keeper_more in
      let left = h.keeper_left.shares.left in
      let two : left ≡ (left - 2) + 2 = omega arith in
      (left - 2, subst (settlers.has_shares keeper) two h.keeper_left.shares.has)

  -- the next gate is new
  pub next_is_new : (old now : Pass (SharedRoom Q) Entry) (keeper : S) (given : List G) (ws : List (DeskWorker G R Q S)) (d : G) (rs rest : List G) (room means : ℕ)
      → rs ≡ d ∷ rest → Hiring recorders settlers gates hall key limit first old now keeper given ws rs room means → IsNewGate gates d
  next_is_new old now keeper given ws d rs rest room means gone h = All-head (IsNewGate gates) d rest (subst (All (IsNewGate gates)) gone h.new)

  pub hired : (old now now' : Pass (SharedRoom Q) Entry) (keeper keeper' : S) (given : List G) (ws ws' : List (DeskWorker G R Q S)) (d : G) (rs rest : List G) (room room' means means' : ℕ)
      (w : DeskWorker G R Q S) → HoldLaws settlers → rs ≡ d ∷ rest → Hiring recorders settlers gates hall key limit first old now keeper given ws rs room means
      → BelongsTo hall now' → shares now' + 1 ≡ shares now → history now' ≡ history now → places now' ≡ places now
      → settlers.ready keeper' → settlers.goes_on keeper keeper' → ((n : ℕ) → settlers.has_shares keeper (n + 1) → settlers.has_shares keeper' n)
      → w.gate ≡ d → IsFresh recorders settlers gates hall key limit first w → ws' ≡ ws ++ w ∷ [] → room ≤ room' → means ≡ means' + 1
      → Hiring recorders settlers gates hall key limit first old now' keeper' given ws' rest room' means'
  hired old now now' keeper keeper' given ws ws' d rs rest room room' means means' w laws gone i belongs share seen own ready goes lacking is fresh more fits fewer =
      let h = subst (λ l. Hiring recorders settlers gates hall key limit first old now keeper given ws l room means) gone i in
      let s = h.share in
      let f = h.fits in
      let supply = h.supplied in
      let len : length ws' ≡ length ws + 1 = ap length more ∙ length-append ws (w ∷ []) in
      let k = h.keeper_left in
      let many = h.keeper_more in
      let lacks = k.shares.lacks in
      let one : k.shares.left ≡ (k.shares.left - 1) + 1 = omega arith in
      record {
        belongs = belongs;
        share = omega arith;
        keeper_left = record {
          ready = ready;
          knows = laws.further first keeper keeper' k.knows goes;
          shares = record {
            all = k.shares.all;
            left = k.shares.left - 1;
            had = k.shares.had;
            has = lacking (k.shares.left - 1) (subst (settlers.has_shares keeper) one k.shares.has);
            lacks = omega arith;
          };
        };
        keeper_more = omega arith;
        taken = ap (λ l. map (λ w. w.gate) l ++ rest) more ∙ ap (λ l. l ++ rest) (map-append (λ w. w.gate) ws (w ∷ [])) ∙ append_assoc (map (λ w. w.gate) ws) (w.gate ∷ []) rest
            ∙ ap (λ x. map (λ w. w.gate) ws ++ x ∷ rest) is ∙ h.taken;
        fresh = subst (All (IsFresh recorders settlers gates hall key limit first)) (sym more) (all_snoc (IsFresh recorders settlers gates hall key limit first) ws w h.fresh fresh);
        new = All-tail (IsNewGate gates) d rest h.new;
        fits = omega arith;
        supplied = omega arith;
        seen = seen ∙ h.seen;
        own = own ∙ h.own;
      }

  -- each gate has a worker
  pub all_hired : (old now : Pass (SharedRoom Q) Entry) (keeper : S) (given rest : List G) (ws : List (DeskWorker G R Q S)) (room means : ℕ)
      → length rest ≡ 0 → Hiring recorders settlers gates hall key limit first old now keeper given ws rest room means → GoesOnWithout settlers first keeper (length given)
  all_hired old now keeper given rest ws room means none h =
      let all : length (map (λ w. w.gate) ws ++ rest) ≡ length given = ap length h.taken in
      let sum = length-append (map (λ w. w.gate) ws) rest in
      let gates_of = length-map ws (λ w. w.gate) in
      let same : length ws ≡ length given = omega arith in
      subst (GoesOnWithout settlers first keeper) same h.keeper_left

  -- fresh workers may be run
  pub all_ready : (ws : List (DeskWorker G R Q S)) → All (IsFresh recorders settlers gates hall key limit first) ws → All (CanServe (desks recorders settlers) gates) ws
  all_ready ws fresh = All-weaker (IsFresh recorders settlers gates hall key limit first) (CanServe (desks recorders settlers) gates) (λ w f. record {
    ready = f.ready.desk;
    none = ap (opened_in (history (desk_of w).pass)) f.ready.none ∙ opened_nothing (history (desk_of w).pass);
    gate = f.ready.gate;
  }) ws fresh

-- ---- workers come home, and are joined

module _ {G P R Q S : Type 0} (recorders : recorder.Ghosts Q) (settlers : settler.Ghosts S Q) (gates : gate.Ghosts G P) (hall : Turnstile (SharedRoom Q) Entry) (key : AdminKey) (limit : ℕ) (first : S)
    (ports : port.Ghosts P) (laws : HoldLaws settlers) where
  home_of : (w w' : DeskWorker G R Q S) → IsFresh recorders settlers gates hall key limit first w → Ran recorders settlers gates ports w w' → IsHome recorders settlers gates hall key limit first ports w.gate w'
  home_of w w' f d =
      let at : (desk_of w').hall.now ≡ hall = ap (λ (b : Bor (Turnstile (SharedRoom Q) Entry)). b.now) d.goes_on.service.hall ∙ f.at in
      record {
        belongs = subst (λ t. BelongsTo t (desk_of w').pass) at d.desk.belongs;
        orderly = d.desk.orderly;
        share = d.goes_on.service.shares ∙ f.share;
        key_is = d.goes_on.key ∙ f.key_is;
        limit_is = d.goes_on.service.limit ∙ f.limit_is;
        keeper_ready = d.desk.keeper;
        knows = laws.further first (desk_of w).keeper (desk_of w').keeper f.knows d.goes_on.service.keeper;
        keeper_share = d.goes_on.service.held 1 f.keeper_share;
        visits = d.visits;
        run = d.run;
        opened = d.opened;
      }

  all_home : (ws ws' : List (DeskWorker G R Q S)) → All (IsFresh recorders settlers gates hall key limit first) ws → AllWorked (Ran recorders settlers gates ports) ws ws'
      → AllHome recorders settlers gates hall key limit first ports (map (λ w. w.gate) ws) ws'
  all_home [] [] f a = tt
  all_home [] (y ∷ ys) f a = absurd (omega (arith, a.0))
  all_home (x ∷ xs) [] f a = absurd (omega (arith, a.0))
  all_home (x ∷ xs) (y ∷ ys) f a =
      let len : length ys ≡ length xs = let e = a.0 in omega arith in (
        home_of x y (All-head (IsFresh recorders settlers gates hall key limit first) x xs f) (a.1 0 x (omega arith)),
        all_home xs ys (All-tail (IsFresh recorders settlers gates hall key limit first) x xs f) (len, λ k d lt. a.1 (suc k) d (omega arith)),
      )

  -- all workers are at home, and none is joined yet
  pub sent : (old now : Pass (SharedRoom Q) Entry) (keeper : S) (given : List G) (ws0 ws ws' rs : List (DeskWorker G R Q S)) (back : List G)
      → BelongsTo hall now → IsOrderly (IsRight (start_of recorders.first)) old → shares now + length given ≡ shares old → history now ≡ history old → places now ≡ places old → places old ≡ []
      → GoesOnWithout settlers first keeper (length given)
      → map (λ w. w.gate) ws ≡ given → All (IsFresh recorders settlers gates hall key limit first) ws → ws0 ≡ ws
      → AllWorked (Ran recorders settlers gates ports) ws0 ws' → rs ≡ ws' → back ≡ []
      → Joining recorders settlers gates hall key limit first ports old now keeper given rs back
  sent old now keeper given ws0 ws ws' rs back belongs orderly share seen own nothing keeps taken fresh same worked0 is none =
      let worked = subst (λ l. AllWorked (Ran recorders settlers gates ports) l ws') same worked0 in
      let l1 : length ws ≡ length given = sym (length-map ws (λ w. w.gate)) ∙ ap length taken in
      let l2 : length ws' ≡ length ws = worked.0 in
      let l3 : length rs ≡ length ws' = ap length is in
      let l4 : length given ≡ length rs = omega arith in
      record {
        belongs = belongs;
        orderly = subst (λ (z : List Entry × List ℕ). AllRight (IsRight (start_of recorders.first)) z.0 × RisesFrom 0 z.1 × LiesBelow (length z.0) z.1) (λ i. (sym seen i, sym own i)) orderly;
        share = omega arith;
        begins = ([], append-nil (history old) ∙ sym seen);
        keeper_left = subst (GoesOnWithout settlers first keeper) l4 keeps;
        left = map (λ w. w.gate) ws;
        home = subst (AllHome recorders settlers gates hall key limit first ports (map (λ w. w.gate) ws)) (sym is) (all_home ws ws' fresh worked);
        runs = [];
        before = taken;
        after = sym none;
        served = λ k d lt. absurd (omega arith);
        own = λ n. sym (ap (λ l. times_in n (opened_in (history now) l)) (own ∙ nothing) ∙ ap (times_in n) (opened_nothing (history now)));
      }

  pub joined : (old now now' : Pass (SharedRoom Q) Entry) (keeper keeper' : S) (given : List G) (w : DeskWorker G R Q S) (rs rest : List (DeskWorker G R Q S)) (back back' : List G)
      → rs ≡ w ∷ rest → Joining recorders settlers gates hall key limit first ports old now keeper given rs back
      → BelongsTo hall now' → IsOrderly (IsRight (start_of recorders.first)) now' → IsPrefix (history now) (history now') → IsPrefix (history (desk_of w).pass) (history now')
      → places now' ≡ merge (places now) (places (desk_of w).pass) → shares now' ≡ shares now + shares (desk_of w).pass
      → settlers.ready keeper' → settlers.goes_on keeper keeper' → settlers.goes_on (desk_of w).keeper keeper'
      → ((n m : ℕ) → settlers.has_shares keeper n → settlers.has_shares (desk_of w).keeper m → settlers.has_shares keeper' (n + m))
      → back' ≡ back ++ w.gate ∷ []
      → Joining recorders settlers gates hall key limit first ports old now' keeper' given rest back'
  joined old now now' keeper keeper' given w rs rest back back' gone i belongs orderly begins from own shares_are ready goes others adds more =
      go i.left (subst (λ l. AllHome recorders settlers gates hall key limit first ports i.left l) gone i.home) refl
    where
      later : (t : S) → settlers.goes_on t keeper' → (h : List Entry) → IsPrefix h (history now') → (r : Run G P)
          → IsRunIn ports (key_bytes key) limit recorders.first (KnowsKept recorders settlers t) (settlers.has_failed t) gates h r
          → IsRunIn ports (key_bytes key) limit recorders.first (KnowsKept recorders settlers keeper') (settlers.has_failed keeper') gates (history now') r
      later t knows h p r = run_later ports (key_bytes key) limit recorders.first (KnowsKept recorders settlers t) (KnowsKept recorders settlers keeper') (settlers.has_failed t) (settlers.has_failed keeper')
          (λ x. laws.kept t keeper' (recorders.count_of x) knows) (laws.failed t keeper' knows) h (history now') p orderly.0 gates r

      -- in the history of all, the turns of a pass opened what they did in its own
      still : (pass : Pass (SharedRoom Q) Entry) → IsOrderly (IsRight (start_of recorders.first)) pass → IsPrefix (history pass) (history now') → opened_in (history now') (places pass) ≡ opened_in (history pass) (places pass)
      still pass order p =
          ap (opened_in (history now')) (sym (append-nil (places pass)))
          ∙ opened_later (history pass) (history now') (places pass) [] p order.2 (λ place opened none. absurd (omega (arith, none)))

      go : (left : List G) → AllHome recorders settlers gates hall key limit first ports left (w ∷ rest) → left ≡ i.left → Joining recorders settlers gates hall key limit first ports old now' keeper' given rest back'
      go [] h is = absurd h
      go (d ∷ ds) h is =
          let one = h.0 in
          let r : Run G P = record { before = d; after = w.gate; visits = one.visits } in
          let len : length rs ≡ length rest + 1 = ap length gone ∙ omega arith in
          let s = i.share in
          let s1 = one.share in
          let k = i.keeper_left in
          let lacks = k.shares.lacks in
          let heard = subst (λ (z : AdminKey). IsRunIn ports (key_bytes z) (desk_of w).limit recorders.first (KnowsKept recorders settlers (desk_of w).keeper) (settlers.has_failed (desk_of w).keeper) gates (history (desk_of w).pass) r) one.key_is one.run in
          let run = subst (λ n. IsRunIn ports (key_bytes key) n recorders.first (KnowsKept recorders settlers (desk_of w).keeper) (settlers.has_failed (desk_of w).keeper) gates (history (desk_of w).pass) r) one.limit_is heard in
          record {
            belongs = belongs;
            orderly = orderly;
            share = omega arith;
            begins = prefix-trans (history old) (history now) (history now') i.begins begins;
            keeper_left = record {
              ready = ready;
              knows = laws.further first keeper keeper' k.knows goes;
              shares = record {
                all = k.shares.all;
                left = k.shares.left + 1;
                had = k.shares.had;
                has = adds k.shares.left 1 k.shares.has one.keeper_share;
                lacks = omega arith;
              };
            };
            left = ds;
            home = h.1;
            runs = i.runs ++ r ∷ [];
            before = ap (λ l. l ++ ds) (map-append (λ r. r.before) i.runs (r ∷ [])) ∙ append_assoc (map (λ r. r.before) i.runs) (d ∷ []) ds ∙ ap (λ l. map (λ r. r.before) i.runs ++ l) is ∙ i.before;
            after = map-append (λ r. r.after) i.runs (r ∷ []) ∙ ap (λ l. l ++ w.gate ∷ []) i.after ∙ sym more;
            served = all_snoc (IsRunIn ports (key_bytes key) limit recorders.first (KnowsKept recorders settlers keeper') (settlers.has_failed keeper') gates (history now')) i.runs r
                (λ k d lt. later keeper goes (history now) begins _ (i.served k d lt))
                (later (desk_of w).keeper others (history (desk_of w).pass) from r run);
            own = λ n.
                let sum = numbers_more n i.runs r in
                let before = i.own n in
                let mine = times_in_order n (map (λ v. v.number) one.visits) (opened_in (history (desk_of w).pass) (places (desk_of w).pass)) one.opened in
                let a = ap (times_in n) (still now i.orderly begins) in
                let b = ap (times_in n) (still (desk_of w).pass one.orderly from) in
                let both = times_merged (history now') (places now) (places (desk_of w).pass) n i.orderly.1 one.orderly.1 (subst (RisesFrom 0) own orderly.1) in
                let c = ap (λ l. times_in n (opened_in (history now') l)) own in
                omega (arith, sum, before, mine, a, b, both, c);
          }

  -- what joining the next worker takes
  pub record CanJoin (w : DeskWorker G R Q S) : Type 0 where
    pub belongs : BelongsTo hall (desk_of w).pass
    pub ready : settlers.ready (desk_of w).keeper
    pub knows : settlers.goes_on first (desk_of w).keeper

  pub next_joins : (left : List G) (rs rest : List (DeskWorker G R Q S)) (w : DeskWorker G R Q S) → AllHome recorders settlers gates hall key limit first ports left rs → rs ≡ w ∷ rest → CanJoin w
  next_joins left rs rest w home is = go left (subst (λ l. AllHome recorders settlers gates hall key limit first ports left l) is home)
    where
      go : (left : List G) → AllHome recorders settlers gates hall key limit first ports left (w ∷ rest) → CanJoin w
      go [] h = absurd h
      go (d ∷ ds) h = record { belongs = h.0.belongs; ready = h.0.keeper_ready; knows = h.0.knows }

  pub all_served : (old now : Pass (SharedRoom Q) Entry) (keeper : S) (given : List G) (rs : List (DeskWorker G R Q S)) (back : List G)
      → Joining recorders settlers gates hall key limit first ports old now keeper given rs back → length rs ≡ 0
      → ServedAll ports (key_bytes key) limit recorders.first (KnowsKept recorders settlers keeper) (settlers.has_failed keeper) gates now given back
  all_served old now keeper given rs back i is = record {
    runs = i.runs;
    before = go i.left rs i.home is i.before;
    after = i.after;
    served = i.served;
    own = i.own;
  }
    where
      go : (left : List G) (rs : List (DeskWorker G R Q S)) → AllHome recorders settlers gates hall key limit first ports left rs → length rs ≡ 0 → map (λ r. r.before) i.runs ++ left ≡ given
          → map (λ r. r.before) i.runs ≡ given
      go [] rs h z e = sym (append-nil (map (λ r. r.before) i.runs)) ∙ e
      go (d ∷ ds) [] h z e = absurd h
      go (d ∷ ds) (w ∷ ws) h z e = absurd (omega (arith, z))

  pub all_seen : (old now : Pass (SharedRoom Q) Entry) (keeper : S) (given : List G) (rs : List (DeskWorker G R Q S)) (back : List G)
      → Joining recorders settlers gates hall key limit first ports old now keeper given rs back → length rs ≡ 0 → Sees recorders.first hall old now
  all_seen old now keeper given rs back i is =
      let s = i.share in record { belongs = i.belongs; orderly = i.orderly; begins = i.begins; shares = omega arith }

  -- all shares came back
  pub all_back : (old now : Pass (SharedRoom Q) Entry) (keeper : S) (given : List G) (rs : List (DeskWorker G R Q S)) (back : List G)
      → Joining recorders settlers gates hall key limit first ports old now keeper given rs back → length rs ≡ 0 → GoesOnWithout settlers first keeper 0
  all_back old now keeper given rs back i is = subst (GoesOnWithout settlers first keeper) is i.keeper_left
