-- Definitions that are found by what their nonterminals go by.
use Rattle.std.specs.Prelude.{◌≡◌, ℕ, Bool, ◌&&◌, List, Option, Some, None, Vec, map, option_map, bytes_eq}
use Rattle.std.specs.Borrow.{Bor}
use Rattle.std.specs.HashMap.{HashMap, get}
use Rattle.std.specs.Option.{option_eq}
use Rattle.std.specs.declared.alloc.Global.{Global}
use Rattle.rdx_lang.specs.PatternView.{patterns_of, definition_of}
use Rattle.rdx_lang.specs.Patterns.{Pattern}
use Rattle.rdx_lang.specs.declared.pattern.Pat.{Pat}
use Rattle.rdx_lang.specs.declared.pattern.Ref.{Ref}
use Rattle.rdx_lang.specs.declared.pattern.Ref.TheVariants.{Nt, Cross}
use Rattle.rdx_patterns.specs.Found.{found_among}

-- ---- keys

-- a name, and for contexts from one nonterminal to another the name of the other
abbrev pub Key : Type 0
Key = Bor (List ℕ) × Option (Bor (List ℕ))

-- the nonterminal that goes by these names
abbrev pub named_by : List ℕ → Option (Bor (List ℕ)) → Ref
named_by x None = Nt x
named_by x (Some y) = Cross x y.now

-- two keys have the same texts
abbrev pub same_key : Key → Key → Bool
same_key k l = bytes_eq k.0.now l.0.now && option_eq (λ x y. bytes_eq x.now y.now) k.1 l.1

-- a text as a part of a key
abbrev pub text_key : List ℕ → Bor (List ℕ)
text_key x = record { ref_ptr = (0, 0); now = x }

-- the key of a nonterminal
abbrev pub key_of : Ref → Key
key_of (Nt x) = (text_key x, None)
key_of (Cross x y) = (text_key x, Some (text_key y))

-- ---- definitions

-- the alternatives that a map has for a nonterminal
abbrev pub found_in : {S : Type 0} → HashMap Key (Bor (List Pat)) S → Ref → Option (List Pattern)
found_in m x = option_map (λ ps. patterns_of ps.now) (get same_key m (key_of x))

-- for each nonterminal they are those of its first definition among these
abbrev pub FindsEach : {S : Type 0} → List (Ref × Vec Pat Global) → HashMap Key (Bor (List Pat)) S → Type 0
FindsEach ds m = (x : Ref) → found_in m x ≡ found_among (map definition_of ds) x
