-- Workers: hired, sent out, and joined.
use Rattle.std.specs.Bool.{if◌then◌else◌}
use Rattle.std.specs.Result.{IsOk, is_ok}
use Rattle.std.proofs.Common.{Result, ◌≡◌, ◌<◌, ◌≤◌, ◌+◌, ◌-◌, ◌^◌, ℕ, suc, not, Bool, true, false, List, [], ◌∷◌, ◌++◌, map, length, All, sym, refl, ap, ap₂, ◌∙◌, subst, arith, append-nil, append_assoc, length-append}
use Rattle.std.proofs.lemmas.List.{map-append, length-map}
use Rattle.std.proofs.lemmas.List.Elements.{All-append, All-head, All-tail, All-cons}
use mathlib.Core.List.{IsPrefix}
use Rattle.std.specs.Borrow.{Bor}
use Rattle.ifdb_io.specs.declared.outside.Source as source
use Rattle.ifdb_io.specs.declared.outside.Sink as sink
use Rattle.ifdb_io.specs.declared.doors.Door as door
use Rattle.ifdb_turn.specs.declared.turnstile.Turnstile.{Turnstile}
use Rattle.ifdb_turn.specs.declared.turnstile.Pass.{Pass}
use Rattle.ifdb_turn.specs.Passes.{history, places, shares, BelongsTo, IsOrderly}
use Rattle.ifdb_turn.specs.Places.{times, merge, RisesFrom}
use Rattle.ifdb_turn.specs.Histories.{AllRight}
use Rattle.ifdb_turn.proofs.PlaceLemmas.{times_merge}
use Rattle.ifdb_history.specs.declared.entry.Entry.{Entry}
use Rattle.ifdb_history.specs.History.{IsRight}
use Rattle.ifdb_pool.specs.Visits.{Visit, Serves as ServesAll}
use Rattle.ifdb_pool.specs.Work.{IsReady, Worked, AllWorked}
use Rattle.ifdb_pool.specs.declared.worker.Worker.{Worker}
use Rattle.ifdb_session.specs.declared.host.SessionHost.{SessionHost}
use Rattle.ifdb_session.specs.declared.records.Records as recorder
use Rattle.ifdb_session.specs.declared.settles.Settles as settler
use Rattle.ifdb_session.specs.declared.shared.SharedRoom.{SharedRoom}
use Rattle.ifdb_session.specs.Acknowledged.{KnowsKept}
use Rattle.ifdb_session.specs.Endings.{fault_of, capped}
use Rattle.ifdb_session.specs.Hosts.{Serves}
use Rattle.ifdb_session.specs.Passes.{Sees}
use Rattle.ifdb_session.specs.Starts.{start_of}
use Rattle.ifdb_session.proofs.Passes.{prefix-trans}
use Rattle.ifdb_service.specs.Doors.{Connection, Run, AllLinked, IsRunIn, ServedAll, faults_in, faults_of, one_unless, turns_of, turns_at}
use Rattle.ifdb_service.specs.Workers.{HoldLaws, HasMore, GoesOnWithout, IsFresh, Hiring, IsHome, AllHome, Joining, hosts, one_if}
use Rattle.ifdb_service.proofs.Links.{AllLinkedBy, linked1, all_later, run_later}

all_snoc : {X : Type 0} (P : X → Type 0) (xs : List X) (x : X) → All P xs → P x → All P (xs ++ x ∷ [])
all_snoc P xs x all one = All-append P xs (x ∷ []) all (All-cons P x [] one (λ k d lt. absurd (omega arith)))

-- a push that succeeded
pub pushed_so : {T E X : Type 0} (r : Result T E) (now was : List X) (x : X) → IsOk r → now ≡ (if is_ok r then was ++ x ∷ [] else was) → now ≡ was ++ x ∷ []
pushed_so r now was x ok is = is ∙ ap (λ b. if b then was ++ x ∷ [] else was) ok

-- a pass that was split off is in order where its parent was
pub split_orderly : {X E : Type 0} (right : List E → E → Type 0) (old own : Pass X E) → IsOrderly right old → history own ≡ history old → places own ≡ []
    → IsOrderly right own
split_orderly right old own orderly seen none =
    (subst (AllRight right) (sym seen) orderly.0, subst (RisesFrom 0) (sym none) tt, λ k le. ap (times k) none)

-- ---- workers are hired

module _ {D K R Q S : Type 0} (recorders : recorder.Ghosts Q) (settlers : settler.Ghosts S Q) (doors : door.Ghosts D K) (hall : Turnstile (SharedRoom Q) Entry) (limit : ℕ) (first : S) where
  -- nobody is hired yet
  pub not_hired : (pass : Pass (SharedRoom Q) Entry) (given rest : List D) (ws : List (Worker D (SessionHost R K Q S))) (room : ℕ) → HoldLaws settlers → rest ≡ given
      → BelongsTo hall pass → settlers.ready first → HasMore settlers first (length given) → All (λ d. doors.most d < 2 ^ 64) given → ws ≡ [] → length given ≤ room
      → Hiring recorders settlers doors hall limit first pass pass first given ws rest room
  not_hired pass given rest ws room laws same belongs ready more few none fits =
      let len : length ws ≡ 0 = ap length none in
      subst (λ l. Hiring recorders settlers doors hall limit first pass pass first given ws l room) (sym same) (record {
        belongs = belongs;
        share = omega arith;
        keeper_left = record { ready = ready; knows = laws.itself first; shares = record { all = more.0; left = more.0; had = more.1; has = more.1; lacks = omega arith } };
        keeper_more = more.2;
        taken = ap (λ l. map (λ w. w.door) l ++ given) none;
        fresh = subst (All (IsFresh recorders settlers doors hall limit first)) (sym none) (λ k d lt. absurd (omega (arith, lt)));
        few = few;
        fits = omega arith;
        seen = refl;
        own = refl;
      })

  -- a share more can be split off for the next door
  pub can_split : (old now : Pass (SharedRoom Q) Entry) (keeper : S) (given : List D) (ws : List (Worker D (SessionHost R K Q S))) (d : D) (rs rest : List D) (room : ℕ)
      → rs ≡ d ∷ rest → Hiring recorders settlers doors hall limit first old now keeper given ws rs room → (n : ℕ) × settlers.has_shares keeper (n + 2)
  can_split old now keeper given ws d rs rest room gone h =
      let len : length rs ≡ length rest + 1 = ap length gone ∙ omega arith in
      let more = h.keeper_more in
      let left = h.keeper_left.shares.left in
      let two : left ≡ (left - 2) + 2 = omega arith in
      (left - 2, subst (settlers.has_shares keeper) two h.keeper_left.shares.has)

  pub hired : (old now now' : Pass (SharedRoom Q) Entry) (keeper keeper' : S) (given : List D) (ws ws' : List (Worker D (SessionHost R K Q S))) (d : D) (rs rest : List D) (room room' : ℕ)
      (w : Worker D (SessionHost R K Q S)) → HoldLaws settlers → rs ≡ d ∷ rest → Hiring recorders settlers doors hall limit first old now keeper given ws rs room
      → BelongsTo hall now' → shares now' + 1 ≡ shares now → history now' ≡ history now → places now' ≡ places now
      → settlers.ready keeper' → settlers.goes_on keeper keeper' → ((n : ℕ) → settlers.has_shares keeper (n + 1) → settlers.has_shares keeper' n)
      → w.door ≡ d → (doors.most d < 2 ^ 64 → IsFresh recorders settlers doors hall limit first w) → ws' ≡ ws ++ w ∷ [] → room ≤ room'
      → Hiring recorders settlers doors hall limit first old now' keeper' given ws' rest room'
  hired old now now' keeper keeper' given ws ws' d rs rest room room' w laws gone i belongs share seen own ready goes lacking is fresh more fits =
      let h = subst (λ l. Hiring recorders settlers doors hall limit first old now keeper given ws l room) gone i in
      let s = h.share in
      let f = h.fits in
      let few : D → Type 0 = λ x. doors.most x < 2 ^ 64 in
      let len : length ws' ≡ length ws + 1 = ap length more ∙ length-append ws (w ∷ []) in
      let few_first : doors.most d < 2 ^ 64 = All-head few d rest h.few in
      let k = h.keeper_left in
      let many = h.keeper_more in
      let lacks = k.shares.lacks in
      let one : k.shares.left ≡ (k.shares.left - 1) + 1 = omega arith in
      record {
        belongs = belongs;
        share = omega arith;
        keeper_left = record {
          ready = ready;
          knows = laws.further first keeper keeper' k.knows goes;
          shares = record {
            all = k.shares.all;
            left = k.shares.left - 1;
            had = k.shares.had;
            has = lacking (k.shares.left - 1) (subst (settlers.has_shares keeper) one k.shares.has);
            lacks = omega arith;
          };
        };
        keeper_more = omega arith;
        taken = ap (λ l. map (λ w. w.door) l ++ rest) more ∙ ap (λ l. l ++ rest) (map-append (λ w. w.door) ws (w ∷ [])) ∙ append_assoc (map (λ w. w.door) ws) (w.door ∷ []) rest
            ∙ ap (λ x. map (λ w. w.door) ws ++ x ∷ rest) is ∙ h.taken;
        fresh = subst (All (IsFresh recorders settlers doors hall limit first)) (sym more) (all_snoc (IsFresh recorders settlers doors hall limit first) ws w h.fresh (fresh few_first));
        few = All-tail few d rest h.few;
        fits = omega arith;
        seen = seen ∙ h.seen;
        own = own ∙ h.own;
      }

  -- each door has a worker
  pub all_hired : (old now : Pass (SharedRoom Q) Entry) (keeper : S) (given rest : List D) (ws : List (Worker D (SessionHost R K Q S))) (room : ℕ)
      → length rest ≡ 0 → Hiring recorders settlers doors hall limit first old now keeper given ws rest room → GoesOnWithout settlers first keeper (length given)
  all_hired old now keeper given rest ws room none h =
      let all : length (map (λ w. w.door) ws ++ rest) ≡ length given = ap length h.taken in
      let sum = length-append (map (λ w. w.door) ws) rest in
      let doors_of = length-map ws (λ w. w.door) in
      let same : length ws ≡ length given = omega arith in
      subst (GoesOnWithout settlers first keeper) same h.keeper_left

-- fresh workers may be run
pub all_ready : {D K R Q S : Type 0} (recorders : recorder.Ghosts Q) (settlers : settler.Ghosts S Q) (doors : door.Ghosts D K) (hall : Turnstile (SharedRoom Q) Entry) (limit : ℕ)
    (sources : source.Ghosts K) (sinks : sink.Ghosts K) (ws all : List (Worker D (SessionHost R K Q S)))
    → all ≡ ws → ((first : S) × All (IsFresh recorders settlers doors hall limit first) ws) → All (IsReady doors (hosts sources sinks recorders settlers)) all
all_ready recorders settlers doors hall limit sources sinks ws all same fresh = λ k d lt.
    let w = subst (All (IsFresh recorders settlers doors hall limit fresh.0)) (sym same) fresh.1 k d lt in
    let none = w.no_link in
    let few = w.most in
    (w.ready, omega (arith, none, few))

-- ---- what the services of a host come to

capped_more : (a b c : ℕ) → capped (capped (a + b) + c) ≡ capped (a + (b + c))
capped_more a b c = omega arith

tally : (f e u : ℕ) → capped (capped (capped f + capped e) + u) ≡ capped (f + (e + u))
tally f e u = omega arith

if_not : (b c : Bool) → c ≡ not b → one_if c ≡ one_unless b
if_not true c is = ap one_if is
if_not false c is = ap one_if is

capped_zero : (a n : ℕ) → a < 2 ^ 64 → n ≡ a → n ≡ capped (a + 0)
capped_zero a n lt is = omega arith

capped_lt : (a n : ℕ) → n ≡ capped a → n < 2 ^ 64
capped_lt a n is = omega arith

faults_snoc : {D K : Type 0} (doors : door.Ghosts D K) (rs : List (Run D K)) (r : Run D K)
    → faults_of doors (rs ++ r ∷ []) ≡ faults_of doors rs + (faults_in r.connections + one_unless (doors.ended r.after))
faults_snoc doors [] r = omega arith
faults_snoc doors (x ∷ xs) r = let i = faults_snoc doors xs r in omega arith

turns_snoc : {D K : Type 0} (k : ℕ) (rs : List (Run D K)) (r : Run D K) → turns_at k (rs ++ r ∷ []) ≡ turns_at k rs + times k (turns_of r.connections)
turns_snoc k [] r = omega arith
turns_snoc k (x ∷ xs) r = let i = turns_snoc k xs r in omega arith

module _ {K R Q S : Type 0} (sources : source.Ghosts K) (sinks : sink.Ghosts K) (recorders : recorder.Ghosts Q) (settlers : settler.Ghosts S Q) (laws : HoldLaws settlers) where
  -- one service after another
  record Chained (a b : SessionHost R K Q S) (vs : List (Visit K)) : Type 0 where
    connections : List Connection
    linked : AllLinkedBy sources sinks recorders settlers b.keeper a.limit (history b.pass) vs connections
    own : places b.pass ≡ places a.pass ++ turns_of connections
    faults : b.faults ≡ capped (a.faults + faults_in connections)
    share : shares b.pass ≡ shares a.pass
    knows : settlers.goes_on a.keeper b.keeper
    keeper_shares : (n : ℕ) → settlers.has_shares a.keeper n → settlers.has_shares b.keeper n
    begins : IsPrefix (history a.pass) (history b.pass)
    hall : b.hall ≡ a.hall
    limit : b.limit ≡ a.limit

  chained : (a b : SessionHost R K Q S) (vs : List (Visit K)) → a.faults < 2 ^ 64 → AllRight (IsRight (start_of recorders.first)) (history b.pass)
      → ServesAll (Serves sources sinks recorders settlers) a vs b → Chained a b vs
  chained a b [] lt right is = record {
    connections = [];
    linked = tt;
    own = sym (append-nil (places a.pass) ∙ ap (λ (h : SessionHost R K Q S). places h.pass) is);
    faults = capped_zero a.faults b.faults lt (ap (λ (h : SessionHost R K Q S). h.faults) (sym is));
    share = ap (λ (h : SessionHost R K Q S). shares h.pass) (sym is);
    knows = subst (λ (h : SessionHost R K Q S). settlers.goes_on a.keeper h.keeper) is (laws.itself a.keeper);
    keeper_shares = subst (λ (h : SessionHost R K Q S). (n : ℕ) → settlers.has_shares a.keeper n → settlers.has_shares h.keeper n) is (λ n has. has);
    begins = ([], append-nil (history a.pass) ∙ ap (λ (h : SessionHost R K Q S). history h.pass) is);
    hall = ap (λ (h : SessionHost R K Q S). h.hall) (sym is);
    limit = ap (λ (h : SessionHost R K Q S). h.limit) (sym is);
  }
  chained a b (v ∷ vs) lt right s =
      let m = s.0 in
      let one = s.1 in
      let rest = chained m b vs (capped_lt _ m.faults one.faults) right s.2 in
      let l = linked1 sources sinks recorders settlers a m v one in
      let here = all_later sources sinks recorders.first (KnowsKept recorders settlers m.keeper) (KnowsKept recorders settlers b.keeper) (settlers.has_failed m.keeper) (settlers.has_failed b.keeper)
      (history m.pass) (history b.pass) (λ x front. laws.kept m.keeper b.keeper (recorders.count_of x) rest.knows) (laws.failed m.keeper b.keeper rest.knows) rest.begins right a.limit (v ∷ []) (l.connection ∷ []) (l.linked, tt) in
      record {
        connections = l.connection ∷ rest.connections;
        linked = (here.0, subst (λ n. AllLinkedBy sources sinks recorders settlers b.keeper n (history b.pass) vs rest.connections) one.limit rest.linked);
        own = rest.own ∙ ap (λ p. p ++ turns_of rest.connections) l.own ∙ append_assoc (places a.pass) l.connection.turns (turns_of rest.connections);
        faults = rest.faults ∙ ap (λ n. capped (n + faults_in rest.connections)) one.faults ∙ capped_more a.faults (fault_of one.service.ending) (faults_in rest.connections)
            ∙ ap (λ e. capped (a.faults + (fault_of e + faults_in rest.connections))) (sym l.same);
        share = rest.share ∙ one.sees.shares;
        knows = laws.further a.keeper m.keeper b.keeper one.keeper rest.knows;
        keeper_shares = λ n has. rest.keeper_shares n (one.shares n has);
        begins = prefix-trans (history a.pass) (history m.pass) (history b.pass) one.sees.begins rest.begins;
        hall = rest.hall ∙ one.hall;
        limit = rest.limit ∙ one.limit;
      }

-- ---- workers come home, and are joined

module _ {D K R Q S : Type 0} (recorders : recorder.Ghosts Q) (settlers : settler.Ghosts S Q) (doors : door.Ghosts D K) (hall : Turnstile (SharedRoom Q) Entry) (limit : ℕ) (first : S)
    (sources : source.Ghosts K) (sinks : sink.Ghosts K) (laws : HoldLaws settlers) where
  home_of : (w w' : Worker D (SessionHost R K Q S)) → IsFresh recorders settlers doors hall limit first w → Worked doors (hosts sources sinks recorders settlers) w w'
      → IsHome recorders settlers doors hall limit first sources sinks w.door w'
  home_of w w' f d =
      let lt : w.host.faults < 2 ^ 64 = subst (λ n. n < 2 ^ 64) (sym f.no_fault) (omega arith) in
      let c = chained sources sinks recorders settlers laws w.host w'.host d.visits lt d.served.ready.orderly.0 d.served.host in
      let at : w'.host.hall.now ≡ hall = ap (λ (b : Bor (Turnstile (SharedRoom Q) Entry)). b.now) c.hall ∙ f.at in
      let z : 0 + faults_in c.connections ≡ faults_in c.connections = omega arith in
      record {
        belongs = subst (λ t. BelongsTo t w'.host.pass) at d.served.ready.belongs;
        share = c.share ∙ f.share;
        keeper_ready = d.served.ready.keeper;
        knows = laws.further first w.host.keeper w'.host.keeper f.knows c.knows;
        keeper_share = c.keeper_shares 1 f.keeper_share;
        visits = d.visits;
        connections = c.connections;
        run = record {
          coming = d.served.coming;
          back = d.served.back;
          linked = subst (λ n. AllLinked sources sinks recorders.first (KnowsKept recorders settlers w'.host.keeper) (settlers.has_failed w'.host.keeper) n (history w'.host.pass) d.visits c.connections) f.limit_is c.linked;
          all = d.all;
          cause = λ off. d.cause (d.failed ∙ ap not off);
        };
        own = c.own ∙ ap (λ l. l ++ turns_of c.connections) f.none;
        faults = c.faults ∙ ap (λ n. capped (n + faults_in c.connections)) f.no_fault ∙ ap capped z;
        failed = d.failed;
      }

  all_home : (ws ws' : List (Worker D (SessionHost R K Q S))) → All (IsFresh recorders settlers doors hall limit first) ws
      → AllWorked (Worked doors (hosts sources sinks recorders settlers)) ws ws'
      → AllHome recorders settlers doors hall limit first sources sinks (map (λ w. w.door) ws) ws'
  all_home [] [] f a = tt
  all_home [] (y ∷ ys) f a = absurd (omega (arith, a.0))
  all_home (x ∷ xs) [] f a = absurd (omega (arith, a.0))
  all_home (x ∷ xs) (y ∷ ys) f a =
      let len : length ys ≡ length xs = let e = a.0 in omega arith in (
        home_of x y (All-head (IsFresh recorders settlers doors hall limit first) x xs f) (a.1 0 x (omega arith)),
        all_home xs ys (All-tail (IsFresh recorders settlers doors hall limit first) x xs f) (len, λ k d lt. a.1 (suc k) d (omega arith)),
      )

  -- all workers are at home, and none is joined yet
  pub sent : (old now : Pass (SharedRoom Q) Entry) (keeper : S) (given : List D) (ws0 ws ws' rs : List (Worker D (SessionHost R K Q S))) (back : List D)
      → BelongsTo hall now → IsOrderly (IsRight (start_of recorders.first)) old → shares now + length given ≡ shares old → history now ≡ history old → places now ≡ places old
      → GoesOnWithout settlers first keeper (length given)
      → map (λ w. w.door) ws ≡ given → All (IsFresh recorders settlers doors hall limit first) ws → ws0 ≡ ws
      → AllWorked (Worked doors (hosts sources sinks recorders settlers)) ws0 ws' → rs ≡ ws' → back ≡ []
      → Joining recorders settlers doors hall limit first sources sinks old now keeper given rs back 0
  sent old now keeper given ws0 ws ws' rs back belongs orderly share seen own keeps taken fresh same worked0 is none =
      let worked = subst (λ l. AllWorked (Worked doors (hosts sources sinks recorders settlers)) l ws') same worked0 in
      let l1 : length ws ≡ length given = sym (length-map ws (λ w. w.door)) ∙ ap length taken in
      let l2 : length ws' ≡ length ws = worked.0 in
      let l3 : length rs ≡ length ws' = ap length is in
      let l4 : length given ≡ length rs = omega arith in
      record {
        belongs = belongs;
        orderly = subst (λ (z : List Entry × List ℕ). AllRight (IsRight (start_of recorders.first)) z.0 × RisesFrom 0 z.1 × Rattle.ifdb_turn.specs.Places.LiesBelow (length z.0) z.1) (λ i. (sym seen i, sym own i)) orderly;
        share = omega arith;
        begins = ([], append-nil (history old) ∙ sym seen);
        keeper_left = subst (GoesOnWithout settlers first keeper) l4 keeps;
        left = map (λ w. w.door) ws;
        home = subst (AllHome recorders settlers doors hall limit first sources sinks (map (λ w. w.door) ws)) (sym is) (all_home ws ws' fresh worked);
        runs = [];
        before = taken;
        after = sym none;
        served = λ k d lt. absurd (omega arith);
        total = refl;
        own = λ k. ap (times k) own ∙ omega arith;
      }

  pub joined : (old now now' : Pass (SharedRoom Q) Entry) (keeper keeper' : S) (given : List D) (w : Worker D (SessionHost R K Q S)) (rs rest : List (Worker D (SessionHost R K Q S))) (back back' : List D) (faults faults' : ℕ)
      → rs ≡ w ∷ rest → Joining recorders settlers doors hall limit first sources sinks old now keeper given rs back faults
      → BelongsTo hall now' → IsOrderly (IsRight (start_of recorders.first)) now' → IsPrefix (history now) (history now') → IsPrefix (history w.host.pass) (history now')
      → places now' ≡ merge (places now) (places w.host.pass) → shares now' ≡ shares now + shares w.host.pass
      → settlers.ready keeper' → settlers.goes_on keeper keeper' → settlers.goes_on w.host.keeper keeper'
      → ((n m : ℕ) → settlers.has_shares keeper n → settlers.has_shares w.host.keeper m → settlers.has_shares keeper' (n + m))
      → back' ≡ back ++ w.door ∷ [] → faults' ≡ capped (capped (faults + w.host.faults) + one_if w.failed)
      → Joining recorders settlers doors hall limit first sources sinks old now' keeper' given rest back' faults'
  joined old now now' keeper keeper' given w rs rest back back' faults faults' gone i belongs orderly begins from own shares_are ready goes others adds more total =
      go i.left (subst (λ l. AllHome recorders settlers doors hall limit first sources sinks i.left l) gone i.home) refl
    where
      later : (t : S) → settlers.goes_on t keeper' → (h : List Entry) → IsPrefix h (history now') → (r : Run D K)
          → IsRunIn sources sinks recorders.first (KnowsKept recorders settlers t) (settlers.has_failed t) doors limit h r
          → IsRunIn sources sinks recorders.first (KnowsKept recorders settlers keeper') (settlers.has_failed keeper') doors limit (history now') r
      later t knows h p r = run_later sources sinks recorders.first (KnowsKept recorders settlers t) (KnowsKept recorders settlers keeper') (settlers.has_failed t) (settlers.has_failed keeper')
          h (history now') (λ x front. laws.kept t keeper' (recorders.count_of x) knows) (laws.failed t keeper' knows) p orderly.0 doors limit r

      go : (left : List D) → AllHome recorders settlers doors hall limit first sources sinks left (w ∷ rest) → left ≡ i.left
          → Joining recorders settlers doors hall limit first sources sinks old now' keeper' given rest back' faults'
      go [] h is = absurd h
      go (d ∷ ds) h is =
          let one = h.0 in
          let r : Run D K = record { before = d; after = w.door; visits = one.visits; connections = one.connections } in
          let len : length rs ≡ length rest + 1 = ap length gone ∙ omega arith in
          let s = i.share in
          let s1 = one.share in
          let k = i.keeper_left in
          let lacks = k.shares.lacks in
          record {
            belongs = belongs;
            orderly = orderly;
            share = omega arith;
            begins = prefix-trans (history old) (history now) (history now') i.begins begins;
            keeper_left = record {
              ready = ready;
              knows = laws.further first keeper keeper' k.knows goes;
              shares = record {
                all = k.shares.all;
                left = k.shares.left + 1;
                had = k.shares.had;
                has = adds k.shares.left 1 k.shares.has one.keeper_share;
                lacks = omega arith;
              };
            };
            left = ds;
            home = h.1;
            runs = i.runs ++ r ∷ [];
            before = ap (λ l. l ++ ds) (map-append (λ r. r.before) i.runs (r ∷ [])) ∙ append_assoc (map (λ r. r.before) i.runs) (d ∷ []) ds ∙ ap (λ l. map (λ r. r.before) i.runs ++ l) is ∙ i.before;
            after = map-append (λ r. r.after) i.runs (r ∷ []) ∙ ap (λ l. l ++ w.door ∷ []) i.after ∙ sym more;
            served = all_snoc (IsRunIn sources sinks recorders.first (KnowsKept recorders settlers keeper') (settlers.has_failed keeper') doors limit (history now')) i.runs r
                (λ k d lt. later keeper goes (history now) begins _ (i.served k d lt))
                (later w.host.keeper others (history w.host.pass) from r one.run);
            total = total ∙ ap₂ (λ a b. capped (capped (a + w.host.faults) + b)) i.total (if_not _ w.failed one.failed)
                ∙ ap (λ b. capped (capped (capped (faults_of doors i.runs) + b) + one_unless (doors.ended w.door))) one.faults
                ∙ tally (faults_of doors i.runs) (faults_in one.connections) _ ∙ ap capped (sym (faults_snoc doors i.runs r));
            own = λ k. let o = i.own k in let m = times_merge k (places now) (places w.host.pass) in let t = ap (times k) own in let n = ap (times k) one.own in
                let x = turns_snoc k i.runs r in omega arith;
          }

  -- what joining the next worker takes
  pub record CanJoin (w : Worker D (SessionHost R K Q S)) : Type 0 where
    pub belongs : BelongsTo hall w.host.pass
    pub ready : settlers.ready w.host.keeper
    pub knows : settlers.goes_on first w.host.keeper

  pub next_joins : (left : List D) (rs rest : List (Worker D (SessionHost R K Q S))) (w : Worker D (SessionHost R K Q S)) → AllHome recorders settlers doors hall limit first sources sinks left rs → rs ≡ w ∷ rest
      → CanJoin w
  next_joins left rs rest w home is = go left (subst (λ l. AllHome recorders settlers doors hall limit first sources sinks left l) is home)
    where
      go : (left : List D) → AllHome recorders settlers doors hall limit first sources sinks left (w ∷ rest) → CanJoin w
      go [] h = absurd h
      go (d ∷ ds) h = record { belongs = h.0.belongs; ready = h.0.keeper_ready; knows = h.0.knows }

  pub all_served : (old now : Pass (SharedRoom Q) Entry) (keeper : S) (given : List D) (rs : List (Worker D (SessionHost R K Q S))) (back : List D) (faults : ℕ)
      → Joining recorders settlers doors hall limit first sources sinks old now keeper given rs back faults → length rs ≡ 0
      → ServedAll sources sinks recorders.first (KnowsKept recorders settlers keeper) (settlers.has_failed keeper) doors limit old now given back faults
  all_served old now keeper given rs back faults i is = record {
    runs = i.runs;
    before = go i.left rs i.home is i.before;
    after = i.after;
    served = i.served;
    total = i.total;
    own = i.own;
  }
    where
      go : (left : List D) (rs : List (Worker D (SessionHost R K Q S))) → AllHome recorders settlers doors hall limit first sources sinks left rs → length rs ≡ 0 → map (λ r. r.before) i.runs ++ left ≡ given
          → map (λ r. r.before) i.runs ≡ given
      go [] rs h z e = sym (append-nil (map (λ r. r.before) i.runs)) ∙ e
      go (d ∷ ds) [] h z e = absurd h
      go (d ∷ ds) (w ∷ ws) h z e = absurd (omega (arith, z))

  pub all_seen : (old now : Pass (SharedRoom Q) Entry) (keeper : S) (given : List D) (rs : List (Worker D (SessionHost R K Q S))) (back : List D) (faults : ℕ)
      → Joining recorders settlers doors hall limit first sources sinks old now keeper given rs back faults → length rs ≡ 0 → Sees recorders.first hall old now
  all_seen old now keeper given rs back faults i is =
      let s = i.share in record { belongs = i.belongs; orderly = i.orderly; begins = i.begins; shares = omega arith }

  -- all shares came back
  pub all_back : (old now : Pass (SharedRoom Q) Entry) (keeper : S) (given : List D) (rs : List (Worker D (SessionHost R K Q S))) (back : List D) (faults : ℕ)
      → Joining recorders settlers doors hall limit first sources sinks old now keeper given rs back faults → length rs ≡ 0 → GoesOnWithout settlers first keeper 0
  all_back old now keeper given rs back faults i is = subst (GoesOnWithout settlers first keeper) is i.keeper_left
