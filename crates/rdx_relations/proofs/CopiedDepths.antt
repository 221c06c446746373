-- How deep lists nest in what is made of copies.
use Rattle.std.proofs.Common.{◌≡◌, ◌++◌, ◌+◌, ◌≤◌, ℕ, List, [], ◌∷◌, max, subst, sym, arith}
use Rattle.rdx_base.specs.declared.place.Span.{Span}
use Rattle.rdx_sexp.specs.Sexp.{Atom, Sexp, leaf, list, sexps}
use Rattle.rdx_sexp.specs.Size.{sexp_depth, sexps_depth}

-- the deeper of two
deeper-within : (a b n : ℕ) → a ≤ n → b ≤ n → max a b ≤ n
deeper-within a b n h k = omega (arith, h, k)

both-within : (a b n : ℕ) → max a b ≤ n → (a ≤ n) × (b ≤ n)
both-within a b n h = (omega (arith, h), omega (arith, h))

-- one datum more
pub depth_pushed : (ds : List Sexp) (d : Sexp) (n : ℕ) → sexps_depth (sexps ds) ≤ n → sexp_depth d ≤ n → sexps_depth (sexps (ds ++ d ∷ [])) ≤ n
depth_pushed [] d n h k = deeper-within (sexp_depth d) 0 n k (omega arith)
depth_pushed (e ∷ ds) d n h k =
    let l = both-within (sexp_depth e) (sexps_depth (sexps ds)) n h in
    deeper-within (sexp_depth e) (sexps_depth (sexps (ds ++ d ∷ []))) n l.0 (depth_pushed ds d n l.1 k)

-- an atom
pub atom_depth : (d : Sexp) (a : Atom) (s : Span) (n : ℕ) → d ≡ leaf a s → sexp_depth d ≤ n
atom_depth d a s n e = subst (λ c. sexp_depth c ≤ n) (sym e) (omega arith)

-- a list
pub list_depth : (d : Sexp) (ds : List Sexp) (s : Span) (m n : ℕ) → d ≡ list (sexps ds) s → sexps_depth (sexps ds) ≤ m → m + 1 ≡ n → sexp_depth d ≤ n
list_depth d ds s m n e h k = subst (λ c. sexp_depth c ≤ n) (sym e) (omega (arith, h, k))
