use Rattle.std.proofs.Common.{◌≡◌, [], ◌∷◌, ◌++◌, length, take, rules}
use Rattle.rdx_term.proofs.Kept.{kept_over}
use Rattle.rdx_term.proofs.term.+print.Goals as goal

pub text::print_items-returns-in_err-print-2-clause-kept : goal.text::print_items-returns-in_err-print-2-clause-kept
text::print_items-returns-in_err-print-2-clause-kept t c =
    kept_over c.args.out.now.items c.loop-i.out.items (32 ∷ []) c.print-in-loop-i.new.out.items c.loop-i.invariant.kept
    (let h : take (length c.push.new.self.items) c.print-in-loop-i.new.out.items ≡ c.push.new.self.items = c.print-in-loop-i.ensures.kept in
    let e : c.push.new.self.items ≡ c.loop-i.out.items ++ 32 ∷ [] = search rules in
    rw e at h)
