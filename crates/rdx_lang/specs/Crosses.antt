-- Cross nonterminals: the one from x to y stands for the contexts that lead from an x to a y somewhere in it, so that `(cross e)` is every
-- context of an e in an e (the Redex reference manual, "Patterns", which leaves open what each of its alternatives is: they are as here).
use Rattle.std.specs.Prelude.{ℕ, Bool, true, false, List, [], ◌∷◌, ◌++◌, map, flat_map, None, bytes_eq, if◌then◌else◌}
use Rattle.rdx_lang.specs.Lookup.{alternatives_of}
use Rattle.rdx_lang.specs.Patterns.{Pattern, wild, of_kind, except, prefix, hole, lit, nt, named, differ, in_hole, hide_hole, closed, seq, Items, nil, one, many, Definition, Language}
use Rattle.rdx_lang.specs.References.{is_among}
use Rattle.rdx_lang.specs.WellFormed.{defined}
use Rattle.rdx_lang.specs.declared.pattern.Ref.{Ref}
use Rattle.rdx_lang.specs.declared.pattern.Ref.TheVariants.{Nt, Cross}

-- ---- the alternatives of one cross nonterminal

abbrev mutual
  -- the pattern without its names and length names
  pub unnamed : Pattern → Pattern
  unnamed wild = wild
  unnamed (of_kind k) = of_kind k
  unnamed (except rs) = except rs
  unnamed (prefix r) = prefix r
  unnamed hole = hole
  unnamed (lit u) = lit u
  unnamed (nt x) = nt x
  unnamed (named x q) = unnamed q
  unnamed (differ x q) = unnamed q
  unnamed (in_hole q r) = in_hole (unnamed q) (unnamed r)
  unnamed (hide_hole q) = hide_hole (unnamed q)
  unnamed (closed q) = closed (unnamed q)
  unnamed (seq ps) = seq (unnamed_items ps)

  -- the items without theirs
  pub unnamed_items : Items → Items
  unnamed_items nil = nil
  unnamed_items (one p ps) = one (unnamed p) (unnamed_items ps)
  unnamed_items (many p n ps) = many (unnamed p) None (unnamed_items ps)

abbrev mutual
  -- The pattern, which has no names, with one nonterminal z of it replaced by the cross nonterminal from z to y: a pattern for each place
  -- where a nonterminal stands outside `in-hole` and `hide-hole`, in pre-order. A cross nonterminal is no such place.
  pub crossed : List ℕ → Pattern → List Pattern
  crossed y wild = []
  crossed y (of_kind k) = []
  crossed y (except rs) = []
  crossed y (prefix r) = []
  crossed y hole = []
  crossed y (lit u) = []
  crossed y (nt (Nt z)) = nt (Cross z y) ∷ []
  crossed y (nt (Cross z w)) = []
  crossed y (named x q) = map (λ r. named x r) (crossed y q)
  crossed y (differ x q) = map (λ r. differ x r) (crossed y q)
  crossed y (in_hole q r) = []
  crossed y (hide_hole q) = []
  crossed y (closed q) = map closed (crossed y q)
  crossed y (seq ps) = map seq (crossed_items y ps)

  -- so with the items. In a repetition the changed pattern stands once, between as many as there are before it and behind it
  pub crossed_items : List ℕ → Items → List Items
  crossed_items y nil = []
  crossed_items y (one p ps) = map (λ q. one q ps) (crossed y p) ++ map (λ qs. one p qs) (crossed_items y ps)
  crossed_items y (many p n ps) =
      map (λ q. many p None (one q (many p None ps))) (crossed y p) ++ map (λ qs. many p n qs) (crossed_items y ps)

-- so with each of some alternatives, in their order, without their names
abbrev pub crossed_alternatives : List ℕ → List Pattern → List Pattern
crossed_alternatives y [] = []
crossed_alternatives y (p ∷ ps) = crossed y (unnamed p) ++ crossed_alternatives y ps

-- the alternatives of the cross nonterminal from x to y: the hole where x is y, and the alternatives of x with one place changed
abbrev pub cross_alternatives : Language → List ℕ → List ℕ → List Pattern
cross_alternatives L x y = (if bytes_eq x y then hole ∷ [] else []) ++ crossed_alternatives y (alternatives_of L (Nt x))

-- ---- languages with cross nonterminals

-- the name of a nonterminal that is no cross nonterminal
abbrev pub plain_name : Ref → List (List ℕ)
plain_name (Nt x) = x ∷ []
plain_name (Cross x y) = []

-- the names of those of a language, in their order
abbrev pub plain_names : Language → List (List ℕ)
plain_names L = flat_map plain_name (defined L)

-- the cross nonterminal from x to y with its alternatives, where it is none of these
abbrev pub new_cross : Language → List ℕ → List ℕ → List Definition
new_cross L y x = if is_among (Cross x y) (defined L) then [] else (Cross x y, cross_alternatives L x y) ∷ []

-- the cross nonterminals to y that a language lacks, from each nonterminal that is none itself, in their order
abbrev pub new_crosses : Language → List ℕ → List Definition
new_crosses L y = flat_map (new_cross L y) (plain_names L)

-- the language with all cross nonterminals to y: those that it lacks come behind all others
abbrev pub with_crosses : Language → List ℕ → Language
with_crosses L y = record L { nonterminals = L.nonterminals ++ new_crosses L y }

-- the language with those to each of these; what comes again changes nothing
abbrev pub with_crosses_to : Language → List (List ℕ) → Language
with_crosses_to L [] = L
with_crosses_to L (y ∷ ys) = with_crosses_to (with_crosses L y) ys

-- ---- those that a language needs

-- a cross nonterminal: where it leads from, and where to
abbrev pub Way : Type 0
Way = List ℕ × List ℕ

abbrev mutual
  -- the cross nonterminals that stand in the pattern, in pre-order
  pub ways : Pattern → List Way
  ways wild = []
  ways (of_kind k) = []
  ways (except rs) = []
  ways (prefix r) = []
  ways hole = []
  ways (lit u) = []
  ways (nt (Nt x)) = []
  ways (nt (Cross x y)) = (x, y) ∷ []
  ways (named x q) = ways q
  ways (differ x q) = ways q
  ways (in_hole q r) = ways q ++ ways r
  ways (hide_hole q) = ways q
  ways (closed q) = ways q
  ways (seq ps) = item_ways ps

  -- and those in the items
  pub item_ways : Items → List Way
  item_ways nil = []
  item_ways (one p ps) = ways p ++ item_ways ps
  item_ways (many p n ps) = ways p ++ item_ways ps

-- and those in the alternatives of a language, in its order
abbrev pub language_ways : Language → List Way
language_ways L = flat_map (λ d. flat_map ways d.1) L.nonterminals

-- the language with the cross nonterminal from x to y alone, if it lacks it
abbrev pub with_cross : Language → Way → Language
with_cross L w = record L { nonterminals = L.nonterminals ++ new_cross L w.1 w.0 }

-- the language with what a cross nonterminal in it needs: all to the same end, and this one, which is one of them unless no nonterminal has the
-- name that it leads from
abbrev pub with_way : Language → Way → Language
with_way L w = with_cross (with_crosses L w.1) w

-- and with what each of these needs; what comes again changes nothing
abbrev pub with_ways : Language → List Way → Language
with_ways L [] = L
with_ways L (w ∷ ws) = with_ways (with_way L w) ws

-- the language with all cross nonterminals that its alternatives need
abbrev pub completed : Language → Language
completed L = with_ways L (language_ways L)

-- ---- what an extension begins with

-- the definition is of no cross nonterminal
abbrev pub is_plain : Definition → Bool
is_plain (Nt x, ps) = true
is_plain (Cross x y, ps) = false

-- those of definitions that are of none, in their order
abbrev pub plain_definitions : List Definition → List Definition
plain_definitions [] = []
plain_definitions (d ∷ ds) = if is_plain d then d ∷ plain_definitions ds else plain_definitions ds

-- the language without its cross nonterminals
abbrev pub without_crosses : Language → Language
without_crosses L = record L { nonterminals = plain_definitions L.nonterminals }
