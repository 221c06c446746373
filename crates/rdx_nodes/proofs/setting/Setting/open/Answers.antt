use Rattle.std.proofs.Common.{◌≡◌, ℕ, List, refl, sym, ◌∙◌, ap, subst}
use Rattle.std.proofs.lemmas.List.{get_or_default}
use Rattle.std.specs.Vec.{with_item}
use Rattle.rdx_lang.specs.Patterns.{Pattern}
use Rattle.rdx_nodes.specs.Nodes.{patterns_at, DoAsWell}
use Rattle.rdx_nodes.specs.Settings.{language_at, patterns_at_hand, doors_of}
use Rattle.rdx_nodes.specs.Inside.Numbering.{opened_by}
use Rattle.rdx_nodes.specs.declared.node.Node.{Node}
use Rattle.rdx_nodes.proofs.NonterminalNodes.{node-kept, there_still, opened-ready, opened-grows, opened-fewer}
use Rattle.rdx_nodes.proofs.setting.Setting.open.Goals as goal

-- the node that is written is the one that was read
same_node : (c : goal.After-self-1) → c.index_mut.result.now ≡ c.index.result.now
same_node c =
    let s = c.args.self.now in
    let t = c.number_all.new.self in
    let k : ℕ = c.args.number in
    let x = c.index.result.now in
    let a = c.in_ok-numbers.ensures.adds in
    c.index_mut.ensures.value ∙ get_or_default t.nodes.items k c.index_mut.result.now x (there_still s t k a c.requires.door.number)
    ∙ sym (node-kept s t a k x c.requires.door.number c.index.ensures)

-- its form has numbers now
new_form : (c : goal.After-self-1) → c.give_numbers.new.form ≡ opened_by c.in_ok-numbers.numbers c.index.result.now.form
new_form c = c.give_numbers.ensures ∙ ap (λ (z : Node). opened_by c.in_ok-numbers.numbers z.form) (same_node c)

pub returns-clause-ready : goal.returns-clause-ready
returns-clause-ready c =
    let t = c.number_all.new.self in
    opened-ready c.args.self.now t _ c.args.number c.index.result.now (record { form = c.give_numbers.new.form; kept = c.index_mut.result.now.kept })
    c.in_ok-numbers.numbers c.in_ok-numbers.ensures.adds c.requires.door.number c.index.ensures
    (new_form c) refl refl refl c.in_ok-numbers.ensures.numbers
    (subst (λ (ps : List Pattern). DoAsWell (language_at t) (patterns_at (patterns_at_hand t) c.in_ok-numbers.numbers.items) ps)
    c.alternatives_in-alternatives.ensures c.in_ok-numbers.ensures.patterns)

pub returns-clause-grows : goal.returns-clause-grows
returns-clause-grows c =
    opened-grows c.args.self.now c.number_all.new.self _ c.args.number c.index.result.now
    (record { form = c.give_numbers.new.form; kept = c.index_mut.result.now.kept }) c.in_ok-numbers.numbers c.in_ok-numbers.ensures.adds
    c.requires.door.number c.index.ensures (new_form c) refl refl refl

pub returns-clause-fewer : goal.returns-clause-fewer
returns-clause-fewer c =
    let s = c.args.self.now in
    let x = c.index.result.now in
    let e : x ≡ c.requires.door.node = c.index.ensures ∙ get_or_default s.nodes.items c.args.number x c.requires.door.node c.requires.door.number
    ∙ c.requires.door.there in
    let t = c.number_all.new.self in
    let y : Node = record { form = c.give_numbers.new.form; kept = c.index_mut.result.now.kept } in
    opened-fewer s t (record { alloc = t.alloc; language = t.language; places = t.places; nodes = with_item t.nodes c.args.number y; index = t.index; store = t.store })
    c.args.number x y c.in_ok-numbers.numbers c.in_ok-numbers.ensures.adds c.requires.door.number c.index.ensures (new_form c) refl
    (ap (λ (z : Node). doors_of z.form) e ∙ c.requires.door.closed)
