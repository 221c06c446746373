-- To which nonterminals the patterns of a language lead by left edges, named by their places among its nonterminals.
use Rattle.std.specs.Prelude.{ℕ, suc, Bool, List, [], ◌∷◌, ◌++◌, map, Vec, if◌then◌else◌}
use Rattle.std.specs.declared.alloc.Global.{Global}
use Rattle.rdx_lang.specs.Empty.{is_empty}
use Rattle.rdx_lang.specs.Patterns.{Pattern, wild, of_kind, except, prefix, hole, lit, nt, named, differ, in_hole, hide_hole, closed, seq, Language}
use Rattle.rdx_lang.specs.References.{is_same}
use Rattle.rdx_lang.specs.WellFormed.{defined}
use Rattle.rdx_lang.specs.declared.pattern.Ref.{Ref}

-- the nonterminals to which a pattern leads before any alternative is taken, where E tells which nonterminals are Empty
abbrev pub leads : (Ref → Bool) → Pattern → List Ref
leads E wild = []
leads E (of_kind k) = []
leads E (except rs) = []
leads E (prefix r) = []
leads E hole = []
leads E (lit u) = []
leads E (nt x) = x ∷ []
leads E (named x q) = leads E q
leads E (differ x q) = leads E q
leads E (in_hole q r) = leads E q ++ (if is_empty E q then leads E r else [])
leads E (hide_hole q) = leads E q
leads E (closed q) = leads E q
leads E (seq ps) = []

-- those to which the patterns of a list lead
abbrev pub all_leads : (Ref → Bool) → List Pattern → List Ref
all_leads E [] = []
all_leads E (p ∷ ps) = leads E p ++ all_leads E ps

-- the place of x among these; how many they are where x is none of them
abbrev pub place : Ref → List Ref → ℕ
place x [] = 0
place x (y ∷ ys) = if is_same x y then 0 else suc (place x ys)

-- the places of zs among xs
abbrev pub places : List Ref → List Ref → List ℕ
places xs zs = map (λ z. place z xs) zs

-- for each nonterminal, the places of those to which its alternatives lead
abbrev pub targets_of : (Ref → Bool) → Language → List (List ℕ)
targets_of E L = map (λ d. places (defined L) (all_leads E d.1)) L.nonterminals

-- the lists that vectors hold
abbrev pub lists_of : List (Vec ℕ Global) → List (List ℕ)
lists_of vs = map (λ v. v.items) vs
