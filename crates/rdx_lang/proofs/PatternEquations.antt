-- What each form of the code's patterns stands for, for proofs here and in the crates above.
use Rattle.std.proofs.Common.{◌≡◌, ℕ, List, Option, map, ap, ◌∙◌}
use Rattle.rdx_term.specs.View.{tree_of}
use Rattle.rdx_lang.specs.Patterns.{Pattern, wild, of_kind, except, prefix, hole, lit, nt, named, differ, in_hole, hide_hole, closed, seq}
use Rattle.rdx_lang.specs.PatternView.{pattern_of, pattern_step, slot_of, slot_step, Slot, just, repeated, items_of}
use Rattle.rdx_lang.specs.declared.pattern.Item as code_item
use Rattle.rdx_lang.specs.declared.pattern.Item.TheOpen as layer
use Rattle.rdx_lang.specs.declared.pattern.Item.TheVariants as item_variants
use Rattle.rdx_lang.specs.declared.pattern.Kind.{Kind}
use Rattle.rdx_lang.specs.declared.pattern.Pat as code_pattern
use Rattle.rdx_lang.specs.declared.pattern.Pat.TheVariants as pattern_variants
use Rattle.rdx_lang.specs.declared.pattern.Ref.{Ref}

-- what a pattern stands for, by its form
pattern_at : (p : code_pattern.Pat) (o : layer.Pat-F code_item.Item code_pattern.Pat) → code_pattern.out-Pat p ≡ o → pattern_of p ≡ pattern_step (code_pattern.map-Pat code_item.Item code_pattern.Pat Slot Pattern slot_of pattern_of o)
pattern_at p o e = code_pattern.fold_out-Pat Slot Pattern slot_step pattern_step p ∙ ap (λ x. pattern_step (code_pattern.map-Pat code_item.Item code_pattern.Pat Slot Pattern slot_of pattern_of x)) e

-- what an item stands for, by its form
slot_at : (s : code_item.Item) (o : layer.Item-F code_item.Item code_pattern.Pat) → code_item.out-Item s ≡ o → slot_of s ≡ slot_step (code_item.map-Item code_item.Item code_pattern.Pat Slot Pattern slot_of pattern_of o)
slot_at s o e = code_item.fold_out-Item Slot Pattern slot_step pattern_step s ∙ ap (λ x. slot_step (code_item.map-Item code_item.Item code_pattern.Pat Slot Pattern slot_of pattern_of x)) e

-- `_`
pub pattern_wild : pattern_of code_pattern.Wild ≡ wild
pattern_wild = pattern_at _ _ pattern_variants.outs-Wild

-- a built-in name
pub pattern_kind : (k : Kind) → pattern_of (code_pattern.Kind k) ≡ of_kind k
pattern_kind k = pattern_at _ _ (pattern_variants.outs-Kind k)

-- the symbols but these
pub pattern_except : (rs : _) → pattern_of (code_pattern.Except rs) ≡ except rs.items
pattern_except rs = pattern_at _ _ (pattern_variants.outs-Except rs)

-- the symbols that begin so
pub pattern_prefix : (r : List ℕ) → pattern_of (code_pattern.Prefix r) ≡ prefix r
pattern_prefix r = pattern_at _ _ (pattern_variants.outs-Prefix r)

-- the hole
pub pattern_hole : pattern_of code_pattern.Hole ≡ hole
pattern_hole = pattern_at _ _ pattern_variants.outs-Hole

-- a literal
pub pattern_lit : (u : _) → pattern_of (code_pattern.Lit u) ≡ lit (tree_of u)
pattern_lit u = pattern_at _ _ (pattern_variants.outs-Lit u)

-- a nonterminal
pub pattern_nt : (x : Ref) → pattern_of (code_pattern.Nt x) ≡ nt x
pattern_nt x = pattern_at _ _ (pattern_variants.outs-Nt x)

-- a pattern with a mismatch name
pub pattern_differ : (x : List ℕ) (q : _) → pattern_of (code_pattern.Differ x q) ≡ differ x (pattern_of q.value)
pattern_differ x q = pattern_at _ _ (pattern_variants.outs-Differ x q)

-- a named pattern
pub pattern_named : (x : List ℕ) (q : _) → pattern_of (code_pattern.Named x q) ≡ named x (pattern_of q.value)
pattern_named x q = pattern_at _ _ (pattern_variants.outs-Named x q)

-- a pattern in the hole of another
pub pattern_in_hole : (q r : _) → pattern_of (code_pattern.InHole q r) ≡ in_hole (pattern_of q.value) (pattern_of r.value)
pattern_in_hole q r = pattern_at _ _ (pattern_variants.outs-InHole q r)

-- a hidden pattern
pub pattern_hide_hole : (q : _) → pattern_of (code_pattern.HideHole q) ≡ hide_hole (pattern_of q.value)
pattern_hide_hole q = pattern_at _ _ (pattern_variants.outs-HideHole q)

-- a closed pattern
pub pattern_closed : (q : _) → pattern_of (code_pattern.Closed q) ≡ closed (pattern_of q.value)
pattern_closed q = pattern_at _ _ (pattern_variants.outs-Closed q)

-- a list pattern
pub pattern_seq : (v : _) → pattern_of (code_pattern.Seq v) ≡ seq (items_of (map slot_of v.items))
pattern_seq v = pattern_at _ _ (pattern_variants.outs-Seq v)

-- an item of one term
pub slot_one : (p : code_pattern.Pat) → slot_of (code_item.One p) ≡ just (pattern_of p)
slot_one p = slot_at _ _ (item_variants.outs-One p)

-- a repetition
pub slot_many : (p : code_pattern.Pat) (n : Option (List ℕ)) → slot_of (code_item.Many p n) ≡ repeated (pattern_of p) n
slot_many p n = slot_at _ _ (item_variants.outs-Many p n)
