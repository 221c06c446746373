use Rattle.std.proofs.Common.{◌≡◌, ◌++◌, drop, map}
use Rattle.rdx_lang.specs.TemplateView.{part_of, host_of}
use Rattle.rdx_lang.proofs.+share_template.Given as goal

abbrev pub invariant-sharing::templates::share_parts-loop-item : goal.invariant-sharing::templates::share_parts-loop-item
invariant-sharing::templates::share_parts-loop-item l = map part_of l.shared.items ++ map part_of (drop l.item-index l.items) ≡ map part_of l.items

abbrev pub invariant-sharing::templates::share_exprs-loop-expr : goal.invariant-sharing::templates::share_exprs-loop-expr
invariant-sharing::templates::share_exprs-loop-expr l = map host_of l.shared.items ++ map host_of (drop l.expr-index l.exprs) ≡ map host_of l.exprs
