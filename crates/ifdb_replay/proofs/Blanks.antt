-- A line's blanks and its first word, byte by byte.
use Rattle.std.proofs.Common.{◌≡◌, ℕ, ◌+◌, ◌<◌, ◌≤◌, true, false, List, ◌∷◌, length, drop, get_or, sym, ap, ◌∙◌}
use Rattle.std.specs.Prelude.{if◌then◌else◌}
use Rattle.std.specs.List.{prefix_len}
use Rattle.std.proofs.lemmas.List.{drop_more, drop_all}
use Rattle.ifdb_lex.specs.Front.{is_word_byte}
use Rattle.ifdb_lex.specs.Line.{is_blank}
use Rattle.ifdb_replay.specs.FirstWord.{after_blanks}

pub blank_next : (text : List ℕ) (i : ℕ) → i < length text → is_blank (get_or text i 0) ≡ true → after_blanks (drop (i + 1) text) ≡ after_blanks (drop i text)
blank_next text i lt is = sym (ap after_blanks (drop_more text i 0 lt) ∙ ap (λ q. if q then after_blanks (drop (i + 1) text) else get_or text i 0 ∷ drop (i + 1) text) is)

pub blank_stops : (text : List ℕ) (i : ℕ) → i < length text → is_blank (get_or text i 0) ≡ false → drop i text ≡ after_blanks (drop i text)
blank_stops text i lt is =
    drop_more text i 0 lt ∙ sym (ap after_blanks (drop_more text i 0 lt) ∙ ap (λ q. if q then after_blanks (drop (i + 1) text) else get_or text i 0 ∷ drop (i + 1) text) is)

pub blanks_end : (text : List ℕ) (i : ℕ) → length text ≤ i → drop i text ≡ after_blanks (drop i text)
blanks_end text i le = drop_all i text le ∙ sym (ap after_blanks (drop_all i text le))

pub word_next : (text : List ℕ) (i : ℕ) → i < length text → is_word_byte (get_or text i 0) ≡ true → prefix_len is_word_byte (drop i text) ≡ 1 + prefix_len is_word_byte (drop (i + 1) text)
word_next text i lt is = ap (prefix_len is_word_byte) (drop_more text i 0 lt) ∙ ap (λ q. if q then 1 + prefix_len is_word_byte (drop (i + 1) text) else 0) is

pub word_stops : (text : List ℕ) (i : ℕ) → i < length text → is_word_byte (get_or text i 0) ≡ false → prefix_len is_word_byte (drop i text) ≡ 0
word_stops text i lt is = ap (prefix_len is_word_byte) (drop_more text i 0 lt) ∙ ap (λ q. if q then 1 + prefix_len is_word_byte (drop (i + 1) text) else 0) is

pub word_ends : (text : List ℕ) (i : ℕ) → length text ≤ i → prefix_len is_word_byte (drop i text) ≡ 0
word_ends text i le = ap (prefix_len is_word_byte) (drop_all i text le)
