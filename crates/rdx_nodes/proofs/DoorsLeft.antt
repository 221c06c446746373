-- How often alternatives may still get nodes: not more often where nodes are added, and less often where alternatives get them.
use Rattle.std.proofs.Common.{◌≡◌, ℕ, ◌+◌, ◌-◌, ◌<◌, ◌≤◌, List, [], ◌∷◌, length, Option, Some, None, Vec, Global, sym, ◌∙◌, ap, subst, arith, length-append}
use Rattle.rdx_nodes.specs.Doors.{most, doors_left}
use Rattle.rdx_nodes.specs.Settings.{doors_by, doors_of, doors_in, closed_doors}
use Rattle.rdx_nodes.specs.Inside.Numbering.{Adds}
use Rattle.rdx_nodes.specs.declared.node.Form.{Form}
use Rattle.rdx_nodes.specs.declared.node.Form.TheVariants as form
use Rattle.rdx_nodes.specs.declared.node.Node.{Node}
use Rattle.rdx_nodes.specs.declared.setting.Setting.{Setting}
use Rattle.rdx_nodes.proofs.NodePatterns.{doors_in-append}

-- a vector has fewer items
pub fewer : {A X : Type 0} (v : Vec A X) → length v.items < most
unfolding most
fewer v = omega (arith, v.ok.0, v.ok.1, v.small)

-- a node is one nonterminal that lacks them at most
doors_by-one : (o : Option (Vec ℕ Global)) → doors_by o ≤ 1
doors_by-one None = omega arith
doors_by-one (Some v) = omega arith

doors_of-one : (f : Form) → doors_of f ≤ 1
doors_of-one form.Wild = omega arith
doors_of-one (form.Kind k) = omega arith
doors_of-one (form.Except rs) = omega arith
doors_of-one (form.Prefix r) = omega arith
doors_of-one form.Hole = omega arith
doors_of-one (form.Lit u) = omega arith
doors_of-one (form.Nt x) = doors_by-one x.opened
doors_of-one (form.Named x k) = omega arith
doors_of-one (form.InHole j k) = omega arith
doors_of-one (form.HideHole k) = omega arith
doors_of-one (form.Closed k) = omega arith
doors_of-one (form.Seq es) = omega arith

-- so there are no more such nonterminals than nodes
doors_in-length : (ns : List Node) → doors_in ns ≤ length ns
doors_in-length [] = omega arith
doors_in-length (n ∷ ns) = let h = doors_of-one n.form in let k = doors_in-length ns in omega (arith, h, k)

-- nodes that are made were counted before
counted : (c d l k m : ℕ) → d ≤ k → l + k < m → c + d + (m - (l + k)) ≤ c + (m - l)
counted c d l k m h i = omega arith

-- so it is not more often
pub doors_left-adds : (s t : Setting) → Adds s t → doors_left t ≤ doors_left s
doors_left-adds s t a =
    let l = length s.nodes.items in
    let k = length a.more in
    let c : closed_doors t ≡ closed_doors s + doors_in a.more = ap doors_in a.nodes ∙ doors_in-append s.nodes.items a.more in
    let e : length t.nodes.items ≡ l + k = ap length a.nodes ∙ length-append s.nodes.items a.more in
    let f = fewer t.nodes in
    let g = counted (closed_doors s) (doors_in a.more) l k most (doors_in-length a.more) (omega (arith, e, f)) in
    subst (λ (j : ℕ). j + (most - length t.nodes.items) ≤ doors_left s) (sym c)
    (subst (λ (j : ℕ). closed_doors s + doors_in a.more + (most - j) ≤ doors_left s) (sym e) g)

-- one nonterminal fewer that lacks them, among as many nodes
pub one_fewer : (c d l k : ℕ) → c + 1 ≡ d → l ≡ k → c + (most - l) + 1 ≡ d + (most - k)
one_fewer c d l k h e = subst (λ (j : ℕ). c + (most - l) + 1 ≡ d + (most - j)) e (omega (arith, h))
