-- What each form of the code's values stands for, for proofs here and in the crates above.
use Rattle.std.proofs.Common.{◌≡◌, ℕ, map, ap, ◌∙◌}
use Rattle.rdx_term.specs.View.{tree_of}
use Rattle.rdx_term.specs.declared.term.Term.{Term}
use Rattle.rdx_lang.specs.Bindings.{Value, one, many, len, values}
use Rattle.rdx_lang.specs.BindingView.{value_of, value_step}
use Rattle.rdx_lang.specs.declared.binding.Value as code_value
use Rattle.rdx_lang.specs.declared.binding.Value.TheOpen as layer
use Rattle.rdx_lang.specs.declared.binding.Value.TheVariants as variants

-- what a value stands for, by its form
value_at : (v : code_value.Value) (o : layer.Value-F code_value.Value) → code_value.out-Value v ≡ o → value_of v ≡ value_step (code_value.map-Value code_value.Value Value value_of o)
value_at v o e = code_value.fold_out-Value Value value_step v ∙ ap (λ x. value_step (code_value.map-Value code_value.Value Value value_of x)) e

-- one term
pub value_one : (t : Term) → value_of (code_value.One t) ≡ one (tree_of t)
value_one t = value_at _ _ (variants.outs-One t)

-- a sequence
pub value_many : (vs : _) → value_of (code_value.Many vs) ≡ many (values (map value_of vs.items))
value_many vs = value_at _ _ (variants.outs-Many vs)

-- a length
pub value_len : (n : ℕ) → value_of (code_value.Len n) ≡ len n
value_len n = value_at _ _ (variants.outs-Len n)
