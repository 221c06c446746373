use Rattle.std.proofs.Common.{◌∙◌, ap, sym}
use Rattle.std.specs.Rc.{rc_str_bytes}
use Rattle.rdx_term.specs.Tree.{hole, integer, truth, text, trees}
use Rattle.rdx_term.specs.View.{tree_of}
use Rattle.rdx_term.specs.declared.term.Term.{Term}
use Rattle.rdx_alpha.specs.Instances.{roles}
use Rattle.rdx_alpha.specs.Nameless.{occurrence, nameless_in, nameless_among}
use Rattle.rdx_alpha.specs.Inside.Around.{around_of}
use Rattle.rdx_alpha.specs.Inside.Same as model
use Rattle.rdx_alpha.proofs.Sameness.{symbol-atom, symbol-list}
use Rattle.rdx_alpha.proofs.alpha.same_as_symbol.Goals as goal

pub returns-in-Hole : goal.returns-in-Hole
returns-in-Hole c = λ fs. symbol-atom (around_of c.args.one.now) c.args.s.now hole
    ∙ sym (ap (λ (t : Term). model.same (occurrence 0 (around_of c.args.one.now) c.args.s.now) (nameless_in fs (around_of c.args.two.now) (tree_of t))) c.in-Hole.is)

pub returns-in-Int : goal.returns-in-Int
returns-in-Int c = λ fs. symbol-atom (around_of c.args.one.now) c.args.s.now (integer c.in-Int._n)
    ∙ sym (ap (λ (t : Term). model.same (occurrence 0 (around_of c.args.one.now) c.args.s.now) (nameless_in fs (around_of c.args.two.now) (tree_of t))) c.in-Int.is)

pub returns-in-Bool : goal.returns-in-Bool
returns-in-Bool c = λ fs. symbol-atom (around_of c.args.one.now) c.args.s.now (truth c.in-Bool._b)
    ∙ sym (ap (λ (t : Term). model.same (occurrence 0 (around_of c.args.one.now) c.args.s.now) (nameless_in fs (around_of c.args.two.now) (tree_of t))) c.in-Bool.is)

pub returns-in-Str : goal.returns-in-Str
returns-in-Str c = λ fs. symbol-atom (around_of c.args.one.now) c.args.s.now (text (rc_str_bytes c.in-Str._text))
    ∙ sym (ap (λ (t : Term). model.same (occurrence 0 (around_of c.args.one.now) c.args.s.now) (nameless_in fs (around_of c.args.two.now) (tree_of t))) c.in-Str.is)

pub returns-in-List : goal.returns-in-List
returns-in-List c = λ fs. symbol-list (around_of c.args.one.now) c.args.s.now (nameless_among fs (around_of c.args.two.now) (roles fs (trees c.in-List._node.value.items)) (trees c.in-List._node.value.items))
    ∙ sym (ap (λ (t : Term). model.same (occurrence 0 (around_of c.args.one.now) c.args.s.now) (nameless_in fs (around_of c.args.two.now) (tree_of t))) c.in-List.is)
