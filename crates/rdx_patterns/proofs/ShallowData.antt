-- A datum among several nests at most as deep as all of them.
use Rattle.std.proofs.Common.{◌≡◌, ℕ, zero, suc, ◌<◌, ◌≤◌, List, [], ◌∷◌, length, get_or, sym, subst, arith}
use Rattle.std.proofs.Math.Nat.{le-max_left, le-max_right}
use Rattle.rdx_sexp.specs.Sexp.{Sexp, sexps}
use Rattle.rdx_sexp.specs.Size.{sexp_depth, sexps_depth}
use Rattle.rdx_lang.specs.Members.{In, here, there}

-- the element at a place is one of them
pub in-at : (ds : List Sexp) (i : ℕ) (d : Sexp) → i < length ds → d ≡ get_or ds i d → In d ds
in-at [] i d h e = absurd (omega arith)
in-at (c ∷ ds) zero d h e = here e
in-at (c ∷ ds) (suc i) d h e = there (in-at ds i d (omega arith) e)

-- each is at most as deep as all
pub depth-in : (ds : List Sexp) (d : Sexp) → In d ds → sexp_depth d ≤ sexps_depth (sexps ds)
depth-in [] d h = elim h [ ]
depth-in (c ∷ ds) d (here e) = subst (λ (b : Sexp). sexp_depth b ≤ sexps_depth (sexps (c ∷ ds))) (sym e) (le-max_left (sexp_depth c) (sexps_depth (sexps ds)))
depth-in (c ∷ ds) d (there h) =
    let k = depth-in ds d h in
    let m = le-max_right (sexp_depth c) (sexps_depth (sexps ds)) in
    omega (arith, k, m)

-- and so is the one at a place
pub depth-at : (ds : List Sexp) (i : ℕ) (d : Sexp) → i < length ds → d ≡ get_or ds i d → sexp_depth d ≤ sexps_depth (sexps ds)
depth-at ds i d h e = depth-in ds d (in-at ds i d h e)
