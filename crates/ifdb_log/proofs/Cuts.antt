-- What pieces are, how much room they take, and that they are read again.
use Rattle.std.proofs.Common.{◌≡◌, ℕ, zero, suc, ◌+◌, ◌-◌, ◌*◌, ◌/◌, ◌<◌, ◌≤◌, Bool, true, false, List, [], ◌∷◌, ◌++◌, length, take, drop, refl, sym, ap, ◌∙◌, ◌⊎◌, inl, inr, arith, append_assoc, length-append, length-drop, length-take, take-append-drop}
use Rattle.std.specs.Prelude.{Option, Some, None, option_and_then, nat_lt, if◌then◌else◌}
use Rattle.std.specs.List.{flat_map}
use Rattle.std.proofs.lemmas.List.{take-append-le}
use Rattle.std.proofs.Math.Seq.{take-append-add}
use Rattle.std.proofs.lemmas.Bool.{cases_lt}
use Rattle.std.proofs.lemmas.Bool.Decides.{nat_tests}
use Rattle.ifdb_journal.specs.declared.record.Record.{Record}
use Rattle.ifdb_journal.specs.Records.{bytes_of}
use Rattle.ifdb_log.specs.Pieces.{AreWhole, FrontsAreFirstTexts, TextsAreReadAgain, cut, piece, pieces, pieces_from, pieces_left, size_of, texts_behind, with_piece, with_texts}

lt_test : (m n : ℕ) → m < n → nat_lt m n ≡ true
lt_test m n lt = grind (arith, nat_tests)

ge_test : (m n : ℕ) → n ≤ m → nat_lt m n ≡ false
ge_test m n le = grind (arith, nat_tests)

-- ---- the pieces of a text, one by one

pub cut_last : (session : ℕ) (text : List ℕ) → length text < 65535 → pieces_from session text ≡ piece session text ∷ []
cut_last session text short =
    let none : length text / 65535 ≡ 0 = omega arith in ap (λ n. cut n session text) none

pub cut_more : (session : ℕ) (text : List ℕ) → 65535 ≤ length text → pieces_from session text ≡ piece session (take 65535 text) ∷ pieces_from 1 (drop 65535 text)
cut_more session text full =
    let fewer : length text / 65535 ≡ suc (length (drop 65535 text) / 65535) = omega (arith, length-drop 65535 text) in ap (λ n. cut n session text) fewer

-- what is left behind a full piece
pub left_more : (is_done : Bool) (session : ℕ) (text front behind : List ℕ) → is_done ≡ false → 65535 ≤ length text → front ≡ take 65535 text → behind ≡ drop 65535 text
    → pieces_left is_done session text ≡ piece session front ∷ pieces_left is_done 1 behind
left_more is_done session text front behind goes full front_is behind_is =
    (λ i. if goes i then [] else pieces_from session text)
    ∙ cut_more session text full
    ∙ (λ i. piece session (sym front_is i) ∷ pieces_from 1 (sym behind_is i))
    ∙ (λ i. piece session front ∷ (if sym goes i then [] else pieces_from 1 behind))

-- ---- their room

pub bytes-append : (rs more : List Record) → bytes_of (rs ++ more) ≡ bytes_of rs + bytes_of more
bytes-append [] more = omega arith
bytes-append (r ∷ rs) more = omega (arith, bytes-append rs more)

bytes-cut : (n session : ℕ) (text : List ℕ) → 65535 * n ≤ length text → bytes_of (cut n session text) ≡ length text + 14 * (n + 1)
bytes-cut zero session text le = omega arith
bytes-cut (suc n) session text le =
    let behind = length-drop 65535 text in
    let front = length-take 65535 text in
    let fewer : 65535 * n ≤ length (drop 65535 text) = omega (arith, le, behind) in
    omega (arith, bytes-cut n 1 (drop 65535 text) fewer, behind, front, le)

pub bytes-pieces : (session : ℕ) (text : List ℕ) → bytes_of (pieces_from session text) ≡ size_of (length text)
bytes-pieces session text =
    let le : 65535 * (length text / 65535) ≤ length text = omega arith in bytes-cut (length text / 65535) session text le

length-cut : (n session : ℕ) (text : List ℕ) → length (cut n session text) ≡ n + 1
length-cut zero session text = omega arith
length-cut (suc n) session text = omega (arith, length-cut n 1 (drop 65535 text))

pub length-pieces : (session : ℕ) (text : List ℕ) → length (pieces_from session text) ≡ length text / 65535 + 1
length-pieces session text = length-cut (length text / 65535) session text

-- ---- a record behind some text

module _ (begun : Option (List ℕ)) (r : Record) (rs : List Record) (text : List ℕ) (is : with_piece begun r ≡ Some text) where
  pub read_last : length r.line < 65535 → texts_behind begun (r ∷ rs) ≡ with_texts (text ∷ []) (texts_behind None rs)
  read_last short =
      let tested = lt_test (length r.line) 65535 short in
      ap (option_and_then (λ (t : List ℕ). if nat_lt (length r.line) 65535 then with_texts (t ∷ []) (texts_behind None rs) else texts_behind (Some t) rs)) is
      ∙ (λ i. if tested i then with_texts (text ∷ []) (texts_behind None rs) else texts_behind (Some text) rs)

  pub read_more : 65535 ≤ length r.line → texts_behind begun (r ∷ rs) ≡ texts_behind (Some text) rs
  read_more full =
      let tested = ge_test (length r.line) 65535 full in
      ap (option_and_then (λ (t : List ℕ). if nat_lt (length r.line) 65535 then with_texts (t ∷ []) (texts_behind None rs) else texts_behind (Some t) rs)) is
      ∙ (λ i. if tested i then with_texts (text ∷ []) (texts_behind None rs) else texts_behind (Some text) rs)

pub read_none : (begun : Option (List ℕ)) (r : Record) (rs : List Record) → with_piece begun r ≡ None → texts_behind begun (r ∷ rs) ≡ None
read_none begun r rs is = ap (option_and_then (λ (t : List ℕ). if nat_lt (length r.line) 65535 then with_texts (t ∷ []) (texts_behind None rs) else texts_behind (Some t) rs)) is

-- ---- pieces of a text that goes on where one was begun

pub with_with : (a b : List (List ℕ)) (c : Option (List (List ℕ))) → with_texts a (with_texts b c) ≡ with_texts (a ++ b) c
with_with a b None = refl
with_with a b (Some c) = ap (λ (l : List (List ℕ)). Some l) (sym (append_assoc a b c))

read_cut : (n session : ℕ) (text start : List ℕ) (begun : Option (List ℕ)) (rs : List Record) → ((line : List ℕ) → with_piece begun (piece session line) ≡ Some (start ++ line)) → length text / 65535 ≡ n
    → texts_behind begun (cut n session text ++ rs) ≡ with_texts ((start ++ text) ∷ []) (texts_behind None rs)
read_cut zero session text start begun rs is few =
    let short : length text < 65535 = omega (arith, few) in read_last begun (piece session text) rs (start ++ text) (is text) short
read_cut (suc n) session text start begun rs is few =
    let full : 65535 ≤ length text = omega (arith, few) in
    let front = take 65535 text in
    let behind = drop 65535 text in
    let size : 65535 ≤ length front = omega (arith, length-take 65535 text, full) in
    let fewer : length behind / 65535 ≡ n = omega (arith, length-drop 65535 text, few) in
    read_more begun (piece session front) (cut n 1 behind ++ rs) (start ++ front) (is front) size
    ∙ read_cut n 1 behind (start ++ front) (Some (start ++ front)) rs (λ line. refl) fewer
    ∙ ap (λ (l : List ℕ). with_texts (l ∷ []) (texts_behind None rs)) (append_assoc start front behind ∙ ap (λ (l : List ℕ). start ++ l) (take-append-drop 65535 text))

-- the first pieces of a text, without its last, are no text
read_front : (n session m : ℕ) (text start : List ℕ) (begun : Option (List ℕ)) → ((line : List ℕ) → with_piece begun (piece session line) ≡ Some (start ++ line)) → length text / 65535 ≡ n → m ≤ n
    → texts_behind begun (take m (cut n session text)) ≡ Some []
read_front n session zero text start begun is few le = refl
read_front zero session (suc m) text start begun is few le = absurd (omega (arith, le))
read_front (suc n) session (suc m) text start begun is few le =
    let full : 65535 ≤ length text = omega (arith, few) in
    let front = take 65535 text in
    let behind = drop 65535 text in
    let size : 65535 ≤ length front = omega (arith, length-take 65535 text, full) in
    let fewer : length behind / 65535 ≡ n = omega (arith, length-drop 65535 text, few) in
    let less : m ≤ n = omega (arith, le) in
    read_more begun (piece session front) (take m (cut n 1 behind)) (start ++ front) (is front) size ∙ read_front n 1 m behind (start ++ front) (Some (start ++ front)) (λ line. refl) fewer less

first_begins : (begun : Option (List ℕ)) (line : List ℕ) → with_piece begun (piece 0 line) ≡ Some ([] ++ line)
first_begins begun line = refl

-- ---- whole texts, and the first records of them

read_all : (texts : List (List ℕ)) (begun : Option (List ℕ)) → texts_behind begun (flat_map pieces texts) ≡ Some texts
read_all [] begun = refl
read_all (text ∷ texts) begun =
    read_cut (length text / 65535) 0 text [] begun (flat_map pieces texts) (first_begins begun) refl ∙ ap (with_texts (text ∷ [])) (read_all texts None)

take-nil : (n : ℕ) → take n (let none : List Record = [] in none) ≡ []
take-nil zero = refl
take-nil (suc n) = refl

-- the first n records of some texts, whatever was begun before them
pub record Fronts (texts : List (List ℕ)) (n : ℕ) : Type 0 where
  pub count : ℕ
  pub are : AreWhole texts n count
  pub read : (begun : Option (List ℕ)) → texts_behind begun (take n (flat_map pieces texts)) ≡ Some (take count texts)

pub fronts : (texts : List (List ℕ)) (n : ℕ) → Fronts texts n
fronts [] n = record {
  count = 0;
  are = record { few = omega arith; there = omega arith; most = λ j le in_front. le };
  read = λ begun. ap (texts_behind begun) (take-nil n);
}
fronts (text ∷ texts) n = by_room (fronts texts (n - length (pieces text))) (cases_lt n (length (pieces text)))
  where
    by_room : Fronts texts (n - length (pieces text)) → (n < length (pieces text)) ⊎ (length (pieces text) ≤ n) → Fronts (text ∷ texts) n
    by_room behind (inl less) = record {
      count = 0;
      are = record {
        few = omega arith;
        there = omega arith;
        most = λ j le in_front. at_most j in_front;
      };
      read = λ begun.
          let within : n ≤ length (pieces text) = omega (arith, less) in
          let before : n ≤ length text / 65535 = omega (arith, less, length-pieces 0 text) in
          ap (texts_behind begun) (take-append-le n (pieces text) (flat_map pieces texts) within) ∙ read_front (length text / 65535) 0 n text [] begun (first_begins begun) refl before;
    }
      where
        at_most : (j : ℕ) → length (flat_map pieces (take j (text ∷ texts))) ≤ n → j ≤ 0
        at_most zero in_front = omega arith
        at_most (suc j) in_front = absurd (omega (arith, in_front, less, length-append (pieces text) (flat_map pieces (take j texts))))
    by_room behind (inr le) =
        let m = n - length (pieces text) in
        let split : n ≡ length (pieces text) + m = omega (arith, le) in
        record {
          count = suc behind.count;
          are = record {
            few = omega (arith, behind.are.few);
            there = omega (arith, behind.are.there, le, length-append (pieces text) (flat_map pieces (take behind.count texts)));
            most = λ j few in_front. at_most j few in_front;
          };
          read = λ begun.
              ap (λ k. texts_behind begun (take k (pieces text ++ flat_map pieces texts))) split
              ∙ ap (texts_behind begun) (take-append-add (pieces text) (flat_map pieces texts) m)
              ∙ read_cut (length text / 65535) 0 text [] begun (take m (flat_map pieces texts)) (first_begins begun) refl
              ∙ ap (with_texts (text ∷ [])) (behind.read None);
        }
      where
        at_most : (j : ℕ) → j ≤ length (text ∷ texts) → length (flat_map pieces (take j (text ∷ texts))) ≤ n → j ≤ suc behind.count
        at_most zero few in_front = omega arith
        at_most (suc j) few in_front =
            let less : j ≤ length texts = omega (arith, few) in
            let room : length (flat_map pieces (take j texts)) ≤ n - length (pieces text) = omega (arith, in_front, length-append (pieces text) (flat_map pieces (take j texts))) in
            omega (arith, behind.are.most j less room)

-- ---- records behind others

pub record Behind (texts : List (List ℕ)) (o : Option (List (List ℕ))) (read : List (List ℕ)) : Type 0 where
  pub more : List (List ℕ)
  pub has : o ≡ Some more
  pub all : read ≡ texts ++ more

with_some : (texts : List (List ℕ)) (o : Option (List (List ℕ))) (read : List (List ℕ)) → with_texts texts o ≡ Some read → Behind texts o read
with_some texts None read is = absurd (cc is)
with_some texts (Some more) read is = record { more = more; has = refl; all = sym (cc is) }

same_some : (a b : List (List ℕ)) → Some a ≡ Some b → a ≡ b
same_some a b is = cc is

-- what is read of records is read of them where others follow
pub goes_on : (rs xs : List Record) (read tail : List (List ℕ)) (begun : Option (List ℕ)) → ((b : Option (List ℕ)) → texts_behind b xs ≡ Some tail) → texts_behind begun rs ≡ Some read → texts_behind begun (rs ++ xs) ≡ Some (read ++ tail)
goes_on [] xs read tail begun behind is = behind begun ∙ ap (λ (l : List (List ℕ)). Some (l ++ tail)) (same_some [] read is)
goes_on (r ∷ rs) xs read tail begun behind is = by_piece (λ some b has. goes_on rs xs some tail b behind has) (with_piece begun r) refl
  where
    by_piece : ((some : List (List ℕ)) (b : Option (List ℕ)) → texts_behind b rs ≡ Some some → texts_behind b (rs ++ xs) ≡ Some (some ++ tail)) → (o : Option (List ℕ)) → with_piece begun r ≡ o → texts_behind begun (r ∷ (rs ++ xs)) ≡ Some (read ++ tail)
    by_piece rest None none = absurd (cc (sym is ∙ read_none begun r rs none))
    by_piece rest (Some text) piece_is = by_size (cases_lt (length r.line) 65535)
      where
        by_size : (length r.line < 65535) ⊎ (65535 ≤ length r.line) → texts_behind begun (r ∷ (rs ++ xs)) ≡ Some (read ++ tail)
        by_size (inl short) =
            let found = with_some (text ∷ []) (texts_behind None rs) read (sym (read_last begun r rs text piece_is short) ∙ is) in
            read_last begun r (rs ++ xs) text piece_is short
            ∙ ap (with_texts (text ∷ [])) (rest found.more None found.has)
            ∙ ap (λ (l : List (List ℕ)). Some (l ++ tail)) (sym found.all)
        by_size (inr full) = read_more begun r (rs ++ xs) text piece_is full ∙ rest read (Some text) (sym (read_more begun r rs text piece_is full) ∙ is)

with_none : (texts : List (List ℕ)) (o : Option (List (List ℕ))) → with_texts texts o ≡ None → o ≡ None
with_none texts None is = refl
with_none texts (Some more) is = absurd (cc is)

-- records that are no texts are none where others follow
pub none_on : (rs xs : List Record) (begun : Option (List ℕ)) → texts_behind begun rs ≡ None → texts_behind begun (rs ++ xs) ≡ None
none_on [] xs begun is = absurd (cc is)
none_on (r ∷ rs) xs begun is = by_piece (λ b has. none_on rs xs b has) (with_piece begun r) refl
  where
    by_piece : ((b : Option (List ℕ)) → texts_behind b rs ≡ None → texts_behind b (rs ++ xs) ≡ None) → (o : Option (List ℕ)) → with_piece begun r ≡ o → texts_behind begun (r ∷ (rs ++ xs)) ≡ None
    by_piece rest None none = read_none begun r (rs ++ xs) none
    by_piece rest (Some text) piece_is = by_size (cases_lt (length r.line) 65535)
      where
        by_size : (length r.line < 65535) ⊎ (65535 ≤ length r.line) → texts_behind begun (r ∷ (rs ++ xs)) ≡ None
        by_size (inl short) =
            let none = with_none (text ∷ []) (texts_behind None rs) (sym (read_last begun r rs text piece_is short) ∙ is) in
            read_last begun r (rs ++ xs) text piece_is short ∙ ap (with_texts (text ∷ [])) (rest None none)
        by_size (inr full) = read_more begun r (rs ++ xs) text piece_is full ∙ rest (Some text) (sym (read_more begun r rs text piece_is full) ∙ is)

pub again : TextsAreReadAgain
again rs read texts is = goes_on rs (flat_map pieces texts) read texts None (read_all texts) is

pub first_texts : FrontsAreFirstTexts
first_texts rs read texts n is =
    let front = fronts texts n in
    (front.count, front.are, goes_on rs (take n (flat_map pieces texts)) read (take front.count texts) None front.read is)
