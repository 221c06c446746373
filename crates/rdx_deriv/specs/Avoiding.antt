-- What fresh names avoid, as the code has it.
use Rattle.std.specs.Prelude.{ℕ, List, map}
use Rattle.std.specs.Borrow.{Bor}
use Rattle.rdx_term.specs.View.{tree_of}
use Rattle.rdx_eval.specs.Fresh as eval
use Rattle.rdx_deriv.specs.declared.progress.Avoided.{Avoided}

-- borrowed names, in their order
abbrev pub texts_of : List (Bor (List ℕ)) → List (List ℕ)
texts_of xs = map (λ x. x.now) xs

-- what fresh names avoid
abbrev pub avoided_of : Avoided → eval.Avoided
avoided_of a = record { whole = tree_of a.whole.now; names = texts_of a.names.items }
