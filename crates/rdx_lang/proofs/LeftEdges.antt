-- What left edges lead from and to, by the form of the pattern, and left edges one after another.
use Rattle.std.proofs.Common.{◌≡◌, refl}
use Rattle.rdx_lang.specs.Edges.{Edge, edge_nt, edge_closed, Reaches, at_once, further}
use Rattle.rdx_lang.specs.Patterns.{Pattern, hole, nt, closed, seq, Items, Language}
use Rattle.rdx_lang.specs.Rules.{IsAlternative}
use Rattle.rdx_lang.specs.declared.pattern.Ref.{Ref}

-- from a nonterminal one leads to an alternative
pub edge-nt : {L : Language} {x : Ref} {q : Pattern} → Edge L (nt x) q → IsAlternative L x q
edge-nt (edge_nt a) = a

-- from a closed pattern to its part
pub edge-closed : {L : Language} {p q : Pattern} → Edge L (closed p) q → q ≡ p
edge-closed edge_closed = refl

-- from a list none does
pub edge-seq : {L : Language} {ps : Items} {q : Pattern} → Edge L (seq ps) q → ⊥
edge-seq e = elim e [ ]

-- nor does one from the hole
pub edge-hole : {L : Language} {q : Pattern} → Edge L hole q → ⊥
edge-hole e = elim e [ ]

-- left edges after left edges
pub reaches_on : {L : Language} {p q r : Pattern} → Reaches L p q → Reaches L q r → Reaches L p r
reaches_on (at_once d) k = further d k
reaches_on (further d h) k = further d (reaches_on h k)

-- the first of them
pub first-edge : {L : Language} {p q : Pattern} → Reaches L p q → (r : Pattern) × Edge L p r
first-edge (at_once {q = q} d) = (q, d)
first-edge (further {q = q} d h) = (q, d)
