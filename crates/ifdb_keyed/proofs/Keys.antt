-- Who is heard as admin.
use Rattle.std.proofs.Common.{◌≡◌, ◌≢◌, ℕ, Bool, true, false, List, [], ◌∷◌, Option, Some, None, Ok, refl, sym, ap, subst, ◌∙◌, arith}
use Rattle.std.specs.Prelude.{bytes_eq, nat_lt, if◌then◌else◌}
use Rattle.std.specs.List.{list_all}
use Rattle.std.specs.Str.{IsAscii, IsUtf8}
use Rattle.std.proofs.lemmas.Bool.{and_parts, ltb-true}
use Rattle.std.proofs.lemmas.Bool.Decides.{nat_tests}
use Rattle.std.proofs.lemmas.Slice.Eq.{bytes_eq-Decides}
use Rattle.std.proofs.lemmas.Str.{IsUtf8-nil, IsUtf8-from_ascii}
use Rattle.std.proofs.lemmas.Str.Ascii.{IsAscii-nil, IsAscii-cons}
use Rattle.ifdb_syntax.specs.declared.request.Request.{Request}
use Rattle.ifdb_syntax.specs.declared.request.Request.TheVariants as q
use Rattle.ifdb_syntax.specs.Words.{Lexemes}
use Rattle.ifdb_syntax.specs.Reading.{written}
use Rattle.ifdb_syntax.specs.Requests.{line as line_rule}
use Rattle.ifdb_syntax.specs.canonical.Requests.{request_tokens}
use Rattle.ifdb_syntax.specs.canonical.Text.{canonical_text}
use Rattle.ifdb_syntax.proofs.RequestLine.{line_in}
use Rattle.ifdb_parse.specs.Lexemes.{reserved}
use Rattle.ifdb_parse.specs.Parsed.{parsed}
use Rattle.ifdb_parse.proofs.back.Back.{read_back}
use Rattle.ifdb_parse.proofs.back.Lighter.{AllSound, Shallow}
use Rattle.ifdb_parse.proofs.written.Parsed.{parsed_is_request}
use Rattle.ifdb_keyed.specs.Keyed.{admin, heard_as, hello_with, said_key}
use Rattle.ifdb_keyed.specs.Laws.{OnlyTheKeyIsAdmin, OtherKeysAreNone, OthersAreAsSaid, TheKeyIsAdmin}

same_bytes : (a b : List ℕ) → bytes_eq a b ≡ true → a ≡ b
same_bytes a b e = (bytes_eq-Decides a b).0 e

ascii : (bs : List ℕ) → list_all (λ b. nat_lt b 128) bs ≡ true → IsAscii bs
ascii [] h = IsAscii-nil
ascii (b ∷ bs) h =
    let p = and_parts (nat_lt b 128) (list_all (λ b. nat_lt b 128) bs) h in
    IsAscii-cons b bs (ltb-true b 128 p.0) (ascii bs p.1)

admin_utf8 : IsUtf8 admin
admin_utf8 = IsUtf8-from_ascii admin (ascii admin refl)

-- HELLO of admin is read as that, whatever text its key is
abbrev hello : List ℕ → Request
hello key = q.Hello admin key

hello_sound : (key : List ℕ) → IsUtf8 key → AllSound (request_tokens (hello key))
unfolding reserved
hello_sound key h = (tt, ((refl, refl), (tt, (h, tt))))

hello_shallow : (key : List ℕ) → Shallow 0 (request_tokens (hello key))
hello_shallow key = (omega arith, (omega arith, (omega arith, (omega arith, tt))))

hello_read : (key : List ℕ) → IsUtf8 key → parsed (hello_with key) ≡ Ok (hello key)
unfolding canonical_text
hello_read key h =
    let back = read_back (request_tokens (hello key)) (hello_sound key h) (hello_shallow key) (omega arith) in
    (parsed_is_request (hello_with key) (hello key)).1 (record {
      tokens = back.0;
      read = back.1;
      spelled = subst (λ (s : Lexemes). line_rule written s (hello key)) (sym back.2) (line_in (hello key) refl);
      within = refl;
    })

admin_read : parsed (hello_with admin) ≡ Ok (hello admin)
admin_read = hello_read admin admin_utf8

none_read : parsed (hello_with []) ≡ Ok (hello [])
none_read = hello_read [] IsUtf8-nil

-- ---- the laws

pub others_as_said : OthersAreAsSaid
others_as_said key line e = rw e refl

bytes_same : (a : List ℕ) → bytes_eq a a ≡ true
bytes_same a = grind (arith, nat_tests, bytes_eq-Decides a a)

bytes_other : (a b : List ℕ) → a ≢ b → bytes_eq a b ≡ false
bytes_other a b h = grind (arith, nat_tests, bytes_eq-Decides a b)

pub the_key_is_admin : TheKeyIsAdmin
the_key_is_admin key line e = rw (e, bytes_same key) admin_read

pub other_keys_are_none : OtherKeysAreNone
other_keys_are_none key line said e other = rw (e, bytes_other said key other) none_read

-- where another key is said, it isn't admin's own that is heard
none_is_not_admin : said_key (parsed (hello_with [])) ≡ Some admin → ⊥
none_is_not_admin e =
    let heard : said_key (parsed (hello_with [])) ≡ Some [] = ap said_key none_read in
    let same : Some [] ≡ Some admin = sym heard ∙ e in
    absurd (cc)

pub only_the_key_is_admin : OnlyTheKeyIsAdmin
only_the_key_is_admin key line e = by (said_key (parsed line)) refl e
  where
    said : (s : List ℕ) (test : Bool) → bytes_eq s key ≡ test → said_key (parsed (hello_with (if test then admin else []))) ≡ Some admin → s ≡ key
    said s true is e = same_bytes s key is
    said s false is e = absurd (none_is_not_admin e)

    by : (o : Option (List ℕ)) → said_key (parsed line) ≡ o → said_key (parsed (heard_as key line o)) ≡ Some admin → o ≡ Some key
    by None is e = let none : None ≡ Some admin = sym is ∙ e in absurd (cc)
    by (Some s) is e = ap (λ (x : List ℕ). Some x) (said s (bytes_eq s key) refl e)
