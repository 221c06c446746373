-- One character more of white space and comments, or of a string, whatever stands behind it.
use Rattle.std.proofs.Common.{◌≡◌, ◌<◌, ◌==◌, ◌&&◌, ◌||◌, ℕ, Bool, true, false, List, [], ◌∷◌, ◌++◌, length, reverse, Option, Some, Ok, Err, refl, sym, ap, ap₂, ◌∙◌, append_assoc, ne_eqb, if◌then◌else◌, arith}
use Rattle.std.specs.Prelude.{◌≢◌}
use Rattle.std.proofs.lemmas.List.{reverse-append, length-reverse}
use Rattle.std.specs.Str.{encode_utf8_all}
use Rattle.std.proofs.Math.Utf8.{encode}
use Rattle.rdx_sexp.specs.Inside.Cursor.{with_bytes}
use Rattle.rdx_sexp.proofs.PrintedTests.{if-true, if-false}
use Rattle.std.specs.Char.{is_whitespace}
use Rattle.std.specs.Str.{byte}
use Rattle.rdx_base.specs.declared.place.Place.{Place}
use Rattle.rdx_sexp.specs.declared.fault.ReadKind.TheVariants.{BadString}
use Rattle.rdx_sexp.specs.Blanks.{past_blanks, past_comment}
use Rattle.rdx_sexp.specs.Refusal.{refusal}
use Rattle.rdx_sexp.specs.Strings.{Body, with_char, escape_of, with_escape, string_body}
use Rattle.rdx_sexp.specs.Text.{Text, at, after, next_is, skip_one}

-- ---- white space and comments

-- at the last character, by its tests
last_outside : {A : Type 0} (a b w : Bool) (x y z : A) → (if a || w then x else y) ≡ (if a then x else if b && false then z else if w then x else y)
last_outside true b w x y z = refl
last_outside false true true x y z = refl
last_outside false true false x y z = refl
last_outside false false true x y z = refl
last_outside false false false x y z = refl

-- outside of comments
pub outside_step : (p : Place) (c : ℕ) (cs : List ℕ) → past_blanks [] p (c ∷ cs) ≡ (
    if c == byte ";" then past_comment (after p c) cs
    else if c == byte "#" && next_is (byte "|") cs then past_blanks (p ∷ []) (skip_one (after p c) cs).place (skip_one (after p c) cs).chars
    else if is_whitespace c then past_blanks [] (after p c) cs
    else Ok (at p (c ∷ cs)))
outside_step p c [] = last_outside (c == byte ";") (c == byte "#") (is_whitespace c) _ _ _
outside_step p c (d ∷ cs) = refl

-- at the last character, by its tests
last_inside : {A : Type 0} (a b : Bool) (x y z : A) → z ≡ (if a && false then x else if b && false then y else z)
last_inside true true x y z = refl
last_inside true false x y z = refl
last_inside false true x y z = refl
last_inside false false x y z = refl

-- inside of a block comment
pub inside_step : (o : Place) (os : List Place) (p : Place) (c : ℕ) (cs : List ℕ) → past_blanks (o ∷ os) p (c ∷ cs) ≡ (
    if c == byte "#" && next_is (byte "|") cs then past_blanks (p ∷ o ∷ os) (skip_one (after p c) cs).place (skip_one (after p c) cs).chars
    else if c == byte "|" && next_is (byte "#") cs then past_blanks os (skip_one (after p c) cs).place (skip_one (after p c) cs).chars
    else past_blanks (o ∷ os) (after p c) cs)
inside_step o os p c [] = last_inside (c == byte "#") (c == byte "|") _ _ (Err o)
inside_step o os p c (d ∷ cs) = refl

-- the texts behind two characters are one
same_text : (os : List Place) (q : Place) (ds : List ℕ) (r : Place) (cs : List ℕ) → at q ds ≡ skip_one r cs
    → past_blanks os (skip_one r cs).place (skip_one r cs).chars ≡ past_blanks os q ds
same_text os q ds r cs e = ap (λ (t : Text). past_blanks os t.place t.chars) (sym e)

-- where some are open
inside_some : (os : List Place) (p : Place) (c : ℕ) (cs : List ℕ) → 0 < length os → (c == byte "#" && next_is (byte "|") cs) ≡ false
    → (c == byte "|" && next_is (byte "#") cs) ≡ false → past_blanks os p (c ∷ cs) ≡ past_blanks os (after p c) cs
inside_some [] p c cs some b e = absurd (omega arith)
inside_some (o ∷ os) p c cs some b e =
    inside_step o os p c cs ∙ if-false (c == byte "#" && next_is (byte "|") cs) _ _ b ∙ if-false (c == byte "|" && next_is (byte "#") cs) _ _ e

inside_begins : (os : List Place) (p : Place) (c : ℕ) (cs : List ℕ) → 0 < length os → (c == byte "#" && next_is (byte "|") cs) ≡ true
    → past_blanks os p (c ∷ cs) ≡ past_blanks (p ∷ os) (skip_one (after p c) cs).place (skip_one (after p c) cs).chars
inside_begins [] p c cs some b = absurd (omega arith)
inside_begins (o ∷ os) p c cs some b = inside_step o os p c cs ∙ if-true (c == byte "#" && next_is (byte "|") cs) _ _ b

reversed_some : (items : List Place) → 0 < length items → 0 < length (reverse items)
reversed_some items some = let e = length-reverse items in omega arith

-- with the innermost last, one block comment more is open
pub block_begins : (items news : List Place) (p q r : Place) (c : ℕ) (xs cs ds : List ℕ) → 0 < length items → news ≡ items ++ p ∷ []
    → xs ≡ c ∷ cs → r ≡ after p c → at q ds ≡ skip_one r cs → (c == byte "#" && next_is (byte "|") cs) ≡ true
    → past_blanks (reverse news) q ds ≡ past_blanks (reverse items) p xs
block_begins items news p q r c xs cs ds some is e at_r at_q b =
    let rev : reverse news ≡ p ∷ reverse items = ap reverse is ∙ reverse-append items (p ∷ []) in
    let one = inside_begins (reverse items) p c cs (reversed_some items some) b in
    let two = same_text (p ∷ reverse items) q ds r cs at_q in
    let three : past_blanks (p ∷ reverse items) (skip_one r cs).place (skip_one r cs).chars ≡ past_blanks (p ∷ reverse items) (skip_one (after p c) cs).place (skip_one (after p c) cs).chars =
    ap (λ (x : Place). past_blanks (p ∷ reverse items) (skip_one x cs).place (skip_one x cs).chars) at_r in
    ap (λ (l : List Place). past_blanks l q ds) rev ∙ sym two ∙ three ∙ sym one ∙ ap (past_blanks (reverse items) p) (sym e)

-- the innermost has its end
pub block_ends : (items news : List Place) (o p q r : Place) (c : ℕ) (xs cs ds : List ℕ) → items ≡ news ++ o ∷ []
    → xs ≡ c ∷ cs → r ≡ after p c → at q ds ≡ skip_one r cs → (c == byte "#" && next_is (byte "|") cs) ≡ false → (c == byte "|" && next_is (byte "#") cs) ≡ true
    → past_blanks (reverse news) q ds ≡ past_blanks (reverse items) p xs
block_ends items news o p q r c xs cs ds is e at_r at_q b k =
    let rev : reverse items ≡ o ∷ reverse news = ap reverse is ∙ reverse-append news (o ∷ []) in
    let one : past_blanks (o ∷ reverse news) p (c ∷ cs) ≡ past_blanks (reverse news) (skip_one (after p c) cs).place (skip_one (after p c) cs).chars =
    inside_step o (reverse news) p c cs ∙ if-false (c == byte "#" && next_is (byte "|") cs) _ _ b ∙ if-true (c == byte "|" && next_is (byte "#") cs) _ _ k in
    let two = same_text (reverse news) q ds r cs at_q in
    let three : past_blanks (reverse news) (skip_one r cs).place (skip_one r cs).chars ≡ past_blanks (reverse news) (skip_one (after p c) cs).place (skip_one (after p c) cs).chars =
    ap (λ (x : Place). past_blanks (reverse news) (skip_one x cs).place (skip_one x cs).chars) at_r in
    sym two ∙ three ∙ sym one ∙ ap₂ (λ (l : List Place) (x : List ℕ). past_blanks l p x) (sym rev) (sym e)

-- a character of the innermost
pub block_goes_on : (items : List Place) (p r : Place) (c : ℕ) (xs cs : List ℕ) → 0 < length items
    → xs ≡ c ∷ cs → r ≡ after p c → (c == byte "#" && next_is (byte "|") cs) ≡ false → (c == byte "|" && next_is (byte "#") cs) ≡ false
    → past_blanks (reverse items) r cs ≡ past_blanks (reverse items) p xs
block_goes_on items p r c xs cs some e at_r b k =
    ap (λ (x : Place). past_blanks (reverse items) x cs) at_r ∙ sym (inside_some (reverse items) p c cs (reversed_some items some) b k)
    ∙ ap (past_blanks (reverse items) p) (sym e)

-- outside of comments a block comment begins
pub outside_begins : (p q r : Place) (c : ℕ) (xs cs ds : List ℕ) → xs ≡ c ∷ cs → r ≡ after p c → at q ds ≡ skip_one r cs → c ≢ 59
    → (c == byte "#" && next_is (byte "|") cs) ≡ true → past_blanks (p ∷ []) q ds ≡ past_blanks [] p xs
outside_begins p q r c xs cs ds e at_r at_q other b =
    let one : past_blanks [] p (c ∷ cs) ≡ past_blanks (p ∷ []) (skip_one (after p c) cs).place (skip_one (after p c) cs).chars =
    outside_step p c cs ∙ if-false (c == byte ";") _ _ (ne_eqb c 59 other) ∙ if-true (c == byte "#" && next_is (byte "|") cs) _ _ b in
    let two = same_text (p ∷ []) q ds r cs at_q in
    let three : past_blanks (p ∷ []) (skip_one r cs).place (skip_one r cs).chars ≡ past_blanks (p ∷ []) (skip_one (after p c) cs).place (skip_one (after p c) cs).chars =
    ap (λ (x : Place). past_blanks (p ∷ []) (skip_one x cs).place (skip_one x cs).chars) at_r in
    sym two ∙ three ∙ sym one ∙ ap (past_blanks [] p) (sym e)

-- or there is white space
pub outside_space : (p r : Place) (c : ℕ) (xs cs : List ℕ) → xs ≡ c ∷ cs → r ≡ after p c → c ≢ 59
    → (c == byte "#" && next_is (byte "|") cs) ≡ false → is_whitespace c ≡ true → past_blanks [] r cs ≡ past_blanks [] p xs
outside_space p r c xs cs e at_r other b w =
    let one : past_blanks [] p (c ∷ cs) ≡ past_blanks [] (after p c) cs =
    outside_step p c cs ∙ if-false (c == byte ";") _ _ (ne_eqb c 59 other) ∙ if-false (c == byte "#" && next_is (byte "|") cs) _ _ b ∙ if-true (is_whitespace c) _ _ w in
    ap (λ (x : Place). past_blanks [] x cs) at_r ∙ sym one ∙ ap (past_blanks [] p) (sym e)

-- ---- strings

-- what follows a backslash at b, from p on
abbrev pub behind_backslash : Place → Place → Place → List ℕ → Body
behind_backslash o b p [] = Err (refusal BadString o)
behind_backslash o b p (d ∷ cs) = with_escape (escape_of d) b (string_body o (after p d) cs)

both_same : {A : Type 0} (a b : Bool) (x y : A) → (if a then x else y) ≡ (if a then x else if b then y else y)
both_same true b x y = refl
both_same false true x y = refl
both_same false false x y = refl

-- in a string
pub body_step : (o p : Place) (c : ℕ) (cs : List ℕ) → string_body o p (c ∷ cs) ≡ (
    if c == byte "\"" then Ok ([], at (after p c) cs)
    else if c == byte "\\" then behind_backslash o p (after p c) cs
    else with_char c (string_body o (after p c) cs))
body_step o p c [] = both_same (c == byte "\"") (c == byte "\\") _ _
body_step o p c (d ∷ cs) = refl

-- a character of a string, behind the bytes of others
with_bytes-with_char : (bs : List ℕ) (c : ℕ) (b : Body) → with_bytes bs (with_char c b) ≡ with_bytes (bs ++ encode c) b
with_bytes-with_char bs c (Ok x) = ap (λ (l : List ℕ). with_ok l x.1) (sym (append_assoc bs (encode c) (encode_utf8_all x.0)))
  where
    with_ok : List ℕ → Text → Body
    with_ok l t = Ok (l, t)
with_bytes-with_char bs c (Err r) = refl

-- one that stands for itself
pub body_plain : (o p r : Place) (c : ℕ) (bs new xs cs : List ℕ) → xs ≡ c ∷ cs → r ≡ after p c → c ≢ 34 → c ≢ 92 → new ≡ bs ++ encode c
    → with_bytes new (string_body o r cs) ≡ with_bytes bs (string_body o p xs)
body_plain o p r c bs new xs cs e at_r quotation backslash is =
    let one : string_body o p (c ∷ cs) ≡ with_char c (string_body o (after p c) cs) =
    body_step o p c cs ∙ if-false (c == byte "\"") _ _ (ne_eqb c 34 quotation) ∙ if-false (c == byte "\\") _ _ (ne_eqb c 92 backslash) in
    ap₂ (λ (l : List ℕ) (x : Place). with_bytes l (string_body o x cs)) is at_r ∙ sym (with_bytes-with_char bs c (string_body o (after p c) cs))
    ∙ ap (with_bytes bs) (sym one ∙ ap (string_body o p) (sym e))

-- an escape
pub body_escape : (o p q r : Place) (c d m : ℕ) (bs new xs cs ds : List ℕ) → xs ≡ c ∷ cs → r ≡ after p c → c ≡ 92 → cs ≡ d ∷ ds → q ≡ after r d
    → escape_of d ≡ Some m → new ≡ bs ++ encode m → with_bytes new (string_body o q ds) ≡ with_bytes bs (string_body o p xs)
body_escape o p q r c d m bs new xs cs ds e at_r backslash behind at_q means is =
    let one : string_body o p (92 ∷ d ∷ ds) ≡ with_char m (string_body o (after (after p 92) d) ds) =
    ap (λ (x : Option ℕ). with_escape x p (string_body o (after (after p 92) d) ds)) means in
    let whole : xs ≡ 92 ∷ d ∷ ds = e ∙ ap₂ (λ (x : ℕ) (l : List ℕ). x ∷ l) backslash behind in
    let place : q ≡ after (after p 92) d = at_q ∙ ap (λ (x : Place). after x d) (at_r ∙ ap (after p) backslash) in
    ap₂ (λ (l : List ℕ) (x : Place). with_bytes l (string_body o x ds)) is place ∙ sym (with_bytes-with_char bs m (string_body o (after (after p 92) d) ds))
    ∙ ap (with_bytes bs) (sym one ∙ ap (string_body o p) (sym whole))
