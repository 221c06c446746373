-- Worked examples: the refusal of a list that would ask Racket, contexts from a nonterminal to itself, and mismatch names.
use Rattle.std.specs.Prelude.{◌≡◌, ℕ, ◌+◌, List, [], ◌∷◌, Some, None, codes}
use Rattle.rdx_base.specs.declared.place.Span.{Span}
use Rattle.rdx_sexp.specs.Sexp.{symbol, Sexp, leaf, list, sexps}
use Rattle.rdx_lang.specs.Patterns.{nt, named, differ, in_hole}
use Rattle.rdx_lang.specs.declared.pattern.Ref.TheVariants.{Nt, Cross}
use Rattle.rdx_patterns.specs.PatternRefusal.{pattern_refusal}
use Rattle.rdx_patterns.specs.Reading.{reading}
use Rattle.rdx_patterns.specs.Refusal.{Refusal}
use Rattle.rdx_patterns.specs.declared.patterns.position.Position.TheVariants.{Query}
use Rattle.rdx_patterns.specs.declared.shape.fault.DefKind.TheVariants.{BadName, BadPattern, RacketEscape}

-- a symbol, and a list
abbrev pub word : Span → List ℕ → Sexp
word s x = leaf (symbol x) s

abbrev pub group : Span → List Sexp → Sexp
group s ds = list (sexps ds) s

-- in the first line, from one column up to the one before the other
abbrev pub columns : ℕ → ℕ → Span
columns first behind = record { start = record { line = 1; column = first }; end = record { line = 1; column = behind } }

-- ---- lists that would ask Racket

-- refused for such a list, which begins in this column of the first line
abbrev pub asks_at : ℕ → Refusal
asks_at n = record { kind = RacketEscape; place = record { line = 1; column = n }; name = None }

-- `(any (unquote x))`
abbrev pub unquoted : Sexp
unquoted =
    group (columns 1 18) (word (columns 2 5) (codes "any")
    ∷ group (columns 6 17) (word (columns 7 14) (codes "unquote") ∷ word (columns 15 16) (codes "x") ∷ []) ∷ [])

-- A pattern is refused at the list itself, however deep it stands.
abbrev pub AsksInside : Type 0
AsksInside = pattern_refusal [] unquoted ≡ Some (asks_at 6)

-- ---- contexts from a nonterminal to itself

-- `(in-hole (cross x) e)`, from one column on, for a name x of one letter
abbrev pub split_across : ℕ → List ℕ → Sexp
split_across n x =
    group (columns n (n + 21)) (word (columns (n + 1) (n + 8)) (codes "in-hole")
    ∷ group (columns (n + 9) (n + 18)) (word (columns (n + 10) (n + 15)) (codes "cross") ∷ word (columns (n + 16) (n + 17)) x ∷ [])
    ∷ word (columns (n + 19) (n + 20)) (codes "e") ∷ [])

-- Over a nonterminal `e`, `(in-hole (cross e) e)` splits a term into a context that leads from an e to an e, which has no name, and what stands there.
abbrev pub ReadsAcross : Type 0
ReadsAcross = reading (codes "e" ∷ []) Query (split_across 1 (codes "e")) ≡ in_hole (nt (Cross (codes "e") (codes "e"))) (named (codes "e") (nt (Nt (codes "e"))))

-- `(cross f)` means nothing there: the list itself is refused.
abbrev pub NoSuchEnd : Type 0
NoSuchEnd =
    pattern_refusal (codes "e" ∷ []) (split_across 1 (codes "f"))
    ≡ Some (record { kind = BadPattern; place = record { line = 1; column = 10 }; name = None })

-- ---- mismatch names

-- the symbol of this text is refused as a pattern over a nonterminal `n`, where it is the whole line
abbrev pub means_nothing : List ℕ → Type 0
means_nothing x =
    pattern_refusal (codes "n" ∷ []) (word (columns 1 9) x) ≡ Some (record { kind = BadPattern; place = record { line = 1; column = 1 }; name = None })

-- Over a nonterminal `n`, all terms that are matched under `n_!_` have to differ.
abbrev pub ReadsMismatch : Type 0
ReadsMismatch = reading (codes "n" ∷ []) Query (word (columns 1 5) (codes "n_!_")) ≡ differ (codes "n_!_") (nt (Nt (codes "n")))

-- So have all those under `n_!_1`, which is another name.
abbrev pub ReadsOtherMismatch : Type 0
ReadsOtherMismatch = reading (codes "n" ∷ []) Query (word (columns 1 6) (codes "n_!_1")) ≡ differ (codes "n_!_1") (nt (Nt (codes "n")))

-- In `n_1_!_` the first `_` begins another suffix, so it is a name like `n_1`.
abbrev pub ReadsLaterMark : Type 0
ReadsLaterMark = reading (codes "n" ∷ []) Query (word (columns 1 7) (codes "n_1_!_")) ≡ named (codes "n_1_!_") (nt (Nt (codes "n")))

-- `foo_!_` means nothing there, as `foo_1` doesn't.
abbrev pub NoSuchMismatch : Type 0
NoSuchMismatch = means_nothing (codes "foo_!_") × means_nothing (codes "foo_1")

-- And `..._!_` is no ellipsis, and means nothing.
abbrev pub NoMismatchEllipsis : Type 0
NoMismatchEllipsis = means_nothing (codes "..._!_")

-- `(name x n)`, for a name x
abbrev pub naming_it : List ℕ → Sexp
naming_it x =
    group (columns 1 17) (word (columns 2 6) (codes "name") ∷ word (columns 7 14) x ∷ word (columns 15 16) (codes "n") ∷ [])

-- this name may not be bound so
abbrev pub may_not_be : List ℕ → Type 0
may_not_be x = pattern_refusal (codes "n" ∷ []) (naming_it x) ≡ Some (record { kind = BadName; place = record { line = 1; column = 7 }; name = Some x })

-- Nothing with `_!_` in it is bound by `name`, wherever that stands.
abbrev pub NoMismatchBound : Type 0
NoMismatchBound = may_not_be (codes "n_!_") × may_not_be (codes "n_1_!_")
