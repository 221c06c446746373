-- Worked examples of cross nonterminals: what the definitions say of small languages.
use Rattle.std.specs.Prelude.{◌≡◌, [], ◌∷◌, Some, None, codes}
use Rattle.rdx_term.specs.Tree as tree
use Rattle.rdx_lang.specs.Crosses.{unnamed, crossed, cross_alternatives, completed, without_crosses}
use Rattle.rdx_lang.specs.Edges.{IsFree, IsRecursive}
use Rattle.rdx_lang.specs.Patterns.{Pattern, of_kind, hole, lit, nt, named, in_hole, hide_hole, seq, nil, one, many, Language}
use Rattle.rdx_lang.specs.WellFormed.{defined}
use Rattle.rdx_lang.specs.declared.pattern.Kind.TheVariants.{Number}
use Rattle.rdx_lang.specs.declared.pattern.Ref.TheVariants.{Nt, Cross}

-- the nonterminal e, the cross nonterminal from e to e, and that from e to v
abbrev pub e : Pattern
e = nt (Nt (codes "e"))

abbrev pub cross_e : Pattern
cross_e = nt (Cross (codes "e") (codes "e"))

abbrev pub cross_e_v : Pattern
cross_e_v = nt (Cross (codes "e") (codes "v"))

-- `(define-language sums (e number (+ e e)))`
abbrev pub sums : Language
sums = record {
  name = codes "sums";
  nonterminals = (Nt (codes "e"), of_kind Number ∷ seq (one (lit (tree.symbol (codes "+"))) (one e (one e nil))) ∷ []) ∷ [];
}

-- a sum of these two
abbrev pub sum_of : Pattern → Pattern → Pattern
sum_of p q = seq (one (lit (tree.symbol (codes "+"))) (one p (one q nil)))

-- from e to e leads the hole, and a sum with a way to an e in its first part, or in its second
abbrev pub CrossOfSums : Type 0
CrossOfSums = cross_alternatives sums (codes "e") (codes "e") ≡ hole ∷ sum_of cross_e e ∷ sum_of e cross_e ∷ []

-- from e to another nonterminal the hole doesn't lead
abbrev pub OtherHasNoHole : Type 0
OtherHasNoHole = cross_alternatives sums (codes "e") (codes "v") ≡ sum_of cross_e_v e ∷ sum_of e cross_e_v ∷ []

-- a repetition stands before the changed pattern and behind it; its names are lost
abbrev pub RepetitionIsSplit : Type 0
RepetitionIsSplit =
    crossed (codes "e") (unnamed (seq (many (named (codes "x") e) (Some (codes "..._n")) nil)))
    ≡ seq (many e None (one cross_e (many e None nil))) ∷ []

-- so at each level
abbrev pub rows : Pattern
rows = seq (many e None nil)

abbrev pub NestedAreSplit : Type 0
NestedAreSplit =
    crossed (codes "e") (seq (many rows None nil))
    ≡ seq (many rows None (one (seq (many e None (one cross_e (many e None nil)))) (many rows None nil))) ∷ []

-- in `in-hole` and `hide-hole` no place is changed, nor is a cross nonterminal
abbrev pub NoPlaces : Type 0
NoPlaces = crossed (codes "e") (seq (one (in_hole e e) (one (hide_hole e) (one cross_e nil)))) ≡ []

-- `(define-language L (e number (cross v)) (v (cross e) (cross v)))`, before it has its cross nonterminals
abbrev pub two_ways : Language
two_ways = record {
  name = codes "L";
  nonterminals =
      (Nt (codes "e"), of_kind Number ∷ nt (Cross (codes "v") (codes "v")) ∷ [])
      ∷ (Nt (codes "v"), cross_e ∷ nt (Cross (codes "v") (codes "v")) ∷ []) ∷ [];
}

-- cross nonterminals are added in the order in which those to their ends are first named, and from each nonterminal in order
abbrev pub AddedInOrder : Type 0
AddedInOrder =
    defined (completed two_ways)
    ≡ Nt (codes "e") ∷ Nt (codes "v")
    ∷ Cross (codes "e") (codes "v") ∷ Cross (codes "v") (codes "v")
    ∷ Cross (codes "e") (codes "e") ∷ Cross (codes "v") (codes "e") ∷ []

-- without them the language is what it was
abbrev pub WithoutIsBefore : Type 0
WithoutIsBefore = without_crosses (completed two_ways) ≡ two_ways

-- `(define-language L (e (in-hole (cross e) e)))`, before it has its cross nonterminals
abbrev pub filled : Language
filled = record { name = codes "L"; nonterminals = (Nt (codes "e"), in_hole cross_e e ∷ []) ∷ [] }

-- Before its cross nonterminals are there this has no left recursion, since only they make the way Empty. So a language that is read has
-- to be tested with those that it needs.
abbrev pub CrossesMatter : Type 0
CrossesMatter = IsFree filled × IsRecursive (completed filled) (Nt (codes "e"))
