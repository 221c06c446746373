-- Worked examples of templates: which fit where one name of depth 1 is bound. They are proved, as clauses of `laws::fitting_examples`.
use Rattle.std.specs.Prelude.{◌≡◌, Bool, true, false, [], ◌∷◌, List, codes, pos, bytes_eq}
use Rattle.rdx_term.specs.Tree.{integer}
use Rattle.rdx_lang.specs.Depths.{Use, name_use}
use Rattle.rdx_lang.specs.Fitting.{Called, fits}
use Rattle.rdx_lang.specs.Scopes.{bound_by}
use Rattle.rdx_lang.specs.Templates.{Template, lit, var, call, host, seq, nil, one, many, term, number, apply, none, more}
use Rattle.rdx_lang.specs.declared.operation.HostOp.TheVariants.{Add}

-- `any_1` is bound at depth 1, as by the pattern `(any_1 ...)`
abbrev pub scope : List Use
scope = name_use 1 (codes "any_1") ∷ []

-- `f` is the one metafunction
abbrev pub called : Called
called x = bytes_eq x (codes "f")

-- the template fits there
abbrev pub fits_there : Template → Bool
fits_there t = fits called (bound_by scope) 0 t

-- `any_1`
abbrev pub any_1 : Template
any_1 = var (codes "any_1") 1

-- the list with this template under an ellipsis
abbrev pub repeated : Template → Template
repeated t = seq (many t nil)

-- `(any_1 ...)` fits
abbrev pub UnderEllipsis : Type 0
UnderEllipsis = fits_there (repeated any_1) ≡ true

-- `any_1` does not, under no ellipsis
abbrev pub UnderNone : Type 0
UnderNone = fits_there any_1 ≡ false

-- `((any_1 ...) ...)` does not, since `any_1` takes turns with the inner ellipsis, and nothing drives the outer one
abbrev pub OuterUndriven : Type 0
OuterUndriven = fits_there (repeated (repeated any_1)) ≡ false

-- `((any_1 any_1 ...) ...)` fits: the first any_1 drives the outer ellipsis, the second the inner one
abbrev pub BothDriven : Type 0
BothDriven = fits_there (repeated (seq (one any_1 (many any_1 nil)))) ≡ true

-- `(1 ...)` does not
abbrev pub NothingDrives : Type 0
NothingDrives = fits_there (repeated (lit (integer (pos 1)))) ≡ false

-- `(any_2 ...)` does not, since no such name is bound
abbrev pub NotBound : Type 0
NotBound = fits_there (repeated (var (codes "any_2") 1)) ≡ false

-- a call takes turns as a list does: `((f any_1) ...)` fits
abbrev pub CallDriven : Type 0
CallDriven = fits_there (repeated (call (codes "f") (one any_1 nil))) ≡ true

-- and so does a host expression: `(,(+ 1 (term any_1)) ...)` fits
abbrev pub HostDriven : Type 0
HostDriven = fits_there (repeated (host (apply Add (more (number (pos 1)) (more (term any_1) none))))) ≡ true

-- `,(term any_1)` does not, under no ellipsis
abbrev pub HostUnderNone : Type 0
HostUnderNone = fits_there (host (term any_1)) ≡ false

-- `(g)` does not fit as a call, since g is no metafunction
abbrev pub NoMetafunction : Type 0
NoMetafunction = fits_there (call (codes "g") nil) ≡ false
