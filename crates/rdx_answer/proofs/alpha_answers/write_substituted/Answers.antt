use Rattle.std.proofs.Common.{true, false, sym, subst}
use Rattle.rdx_term.specs.Tree.{Tree}
use Rattle.rdx_term.specs.View.{tree_of}
use Rattle.rdx_term.specs.declared.term.Term.{Term}
use Rattle.rdx_alpha.specs.View.{forms_of}
use Rattle.rdx_answer.specs.AlphaAnswers.{IsSubstitutedAnswer, not_name}
use Rattle.rdx_answer.specs.Inside.Appending.{Appends}
use Rattle.rdx_answer.proofs.Outcomes.{fault-appended, line-appended, no-name, value-appended}
use Rattle.rdx_answer.proofs.alpha_answers.write_substituted.Goals as goal

pub returns-in_default : goal.returns-in_default
returns-in_default c =
    let fs = forms_of c.args.forms.now in
    let t : Tree = tree_of c.args.t.now in
    let x : Tree = tree_of c.args.x.now in
    let v : Tree = tree_of c.args.v.now in
    line-appended fs t x v (not_name x) c.args.out.now.items c.write_not_name.new.out.items (no-name fs t c.args.x.now v c.in_default.not-Sym)
    c.in_ok-write_not_name.ensures

pub returns-in_ok-write_value_line-in-Ok : goal.returns-in_ok-write_value_line-in-Ok
returns-in_ok-write_value_line-in-Ok c =
    let fs = forms_of c.args.forms.now in
    let t : Tree = tree_of c.args.t.now in
    let v : Tree = tree_of c.args.v.now in
    subst (λ (x : Term). Appends (IsSubstitutedAnswer fs t (tree_of x) v) c.args.out.now.items c.write_value_line.new.out.items true) (sym c.in-Sym.is)
    (value-appended fs t c.in-Sym.name v (tree_of c.in-Ok.made) c.args.out.now.items c.write_value_line.new.out.items c.in-Ok.ensures.ok
    c.depth-depth.ensures.valid c.in_ok-write_value_line-in-Ok.ensures)

pub returns-in_ok-write_stop-in-Err : goal.returns-in_ok-write_stop-in-Err
returns-in_ok-write_stop-in-Err c =
    let fs = forms_of c.args.forms.now in
    let t : Tree = tree_of c.args.t.now in
    let v : Tree = tree_of c.args.v.now in
    subst (λ (x : Term). Appends (IsSubstitutedAnswer fs t (tree_of x) v) c.args.out.now.items c.write_stop.new.out.items false) (sym c.in-Sym.is)
    (fault-appended fs t c.in-Sym.name v c.in-Err.fault c.args.out.now.items c.write_stop.new.out.items c.in-Err.ensures.err
    c.in_ok-write_stop-in-Err.ensures)
