-- Words that are numbers.
use Rattle.std.proofs.Common.{◌≡◌, ℕ, ◌<◌, true, List, [], ◌∷◌, ◌++◌, map, append_assoc, Result, Ok, Err, Option, Some, None}
use Rattle.std.proofs.Common.{decimal, ◌↔◌, refl, sym, ap, ◌∙◌, subst, arith}
use Rattle.std.proofs.lemmas.Fmt.{parse-decimal}
use Rattle.std.proofs.lemmas.List.{map-append}
use Rattle.std.specs.Option.{IfSome, is_some}
use Rattle.std.specs.Str.Parse.{ParsesUnsigned}
use Rattle.rdx_cli.specs.Inside.Rows.{IsNumber, IsNoNumber, AreNumbers, AreSomeNumbers}
use Rattle.rdx_cli.specs.Words.{AreSmall}

-- ---- one word

-- a number of nine digits at most is read as itself
pub read_as_itself : {E : Type 0} (word : List ℕ) (n : ℕ) (r : Result ℕ E) → ParsesUnsigned 32 10 word r → IsNumber word n → r ≡ Ok n
read_as_itself word n r p h = let s = h.small in parse-decimal 32 n word r (omega arith) (omega arith) h.word_is p

-- a word that is read as another number, or is not read, is none
pub no_other : {E : Type 0} (word : List ℕ) (m : ℕ) (r : Result ℕ E) → ParsesUnsigned 32 10 word r → r ≡ Ok m → (IsNumber word m → ⊥) → IsNoNumber word
no_other word m r p e f = λ n h. let k = read_as_itself word n r p h in let same : n ≡ m = cc in f (subst (IsNumber word) same h)

pub not_read : {E : Type 0} (word : List ℕ) (e : E) (r : Result ℕ E) → ParsesUnsigned 32 10 word r → r ≡ Err e → IsNoNumber word
not_read word e r p q = λ n h. let k = read_as_itself word n r p h in absurd cc

-- where one was found, the word is one
pub found_number : (word : List ℕ) (r : Option ℕ) → is_some r ≡ true → IfSome r (IsNumber word) → (n : ℕ) × IsNumber word n
found_number word None e h = absurd cc
found_number word (Some n) e h = (n, h)

-- ---- words

-- no words are numbers
pub numbers_none : AreSomeNumbers []
numbers_none = record { numbers = []; numbers_are = record { words_are = refl; small = tt } }

-- so are a number and numbers
pub numbers_more : (word : List ℕ) (words : List (List ℕ)) (n : ℕ) → IsNumber word n → AreSomeNumbers words → AreSomeNumbers (word ∷ words)
numbers_more word words n h k =
    let same : word ∷ words ≡ map decimal (n ∷ k.numbers) = ap (λ w. w ∷ words) h.word_is ∙ ap (λ ws. decimal n ∷ ws) k.numbers_are.words_are
    in
    record { numbers = n ∷ k.numbers; numbers_are = record { words_are = same; small = (h.small, k.numbers_are.small) } }

-- the first of words that are numbers is one, and the others are numbers
pub numbers_first : (word : List ℕ) (words : List (List ℕ)) → AreSomeNumbers (word ∷ words) → (n : ℕ) × IsNumber word n
numbers_first word words h = of h.numbers h.numbers_are
  where
    of : (ns : List ℕ) → AreNumbers (word ∷ words) ns → (n : ℕ) × IsNumber word n
    of [] k = let e = k.words_are in absurd cc
    of (n ∷ ns) k = let e = k.words_are in (n, record { word_is = cc; small = k.small.0 })

pub numbers_rest : (word : List ℕ) (words : List (List ℕ)) → AreSomeNumbers (word ∷ words) → AreSomeNumbers words
numbers_rest word words h = of h.numbers h.numbers_are
  where
    of : (ns : List ℕ) → AreNumbers (word ∷ words) ns → AreSomeNumbers words
    of [] k = let e = k.words_are in absurd cc
    of (n ∷ ns) k = let e = k.words_are in record { numbers = ns; numbers_are = record { words_are = cc; small = k.small.1 } }

-- ---- the rest of words in a loop

-- where the rest begins with no number, it is not numbers
pub not_numbers : (word : List ℕ) (rest more : List (List ℕ)) → rest ≡ word ∷ more → IsNoNumber word → AreSomeNumbers rest → ⊥
not_numbers word rest more e f h = let first = numbers_first word more (subst AreSomeNumbers e h) in f first.0 first.1

-- where it begins with a number, all are numbers just if what is behind it is
pub numbers_behind : (word : List ℕ) (n : ℕ) (all rest more : List (List ℕ)) → rest ≡ word ∷ more → IsNumber word n →
    AreSomeNumbers all ↔ AreSomeNumbers rest → AreSomeNumbers all ↔ AreSomeNumbers more
numbers_behind word n all rest more e h p =
    (λ a. numbers_rest word more (subst AreSomeNumbers e (p.0 a)), λ m. p.1 (subst AreSomeNumbers (sym e) (numbers_more word more n h m)))

-- and one number more is known
pub known_more : (word : List ℕ) (n : ℕ) (all rest more : List (List ℕ)) (numbers : List ℕ) → rest ≡ word ∷ more → IsNumber word n →
    all ≡ map decimal numbers ++ rest → all ≡ map decimal (numbers ++ n ∷ []) ++ more
known_more word n all rest more ns e h p =
    p ∙ ap (λ r. map decimal ns ++ r) (e ∙ ap (λ w. w ∷ more) h.word_is) ∙ sym (append_assoc (map decimal ns) (decimal n ∷ []) more)
    ∙ ap (λ ws. ws ++ more) (sym (map-append decimal ns (n ∷ [])))

-- numbers of nine digits at most and one more
pub small_more : (ns : List ℕ) (n : ℕ) → AreSmall ns → n < 1000000000 → AreSmall (ns ++ n ∷ [])
small_more [] n h k = (k, tt)
small_more (m ∷ ns) n h k = (h.0, small_more ns n h.1 k)
