use Rattle.std.proofs.Common.{◌≡◌, ℕ, ◌+◌, Bool, List, [], ◌∷◌, ◌++◌, length, map, max, sym, ◌∙◌, ap, append_assoc, append-nil, inl, inr, arith, if◌then◌else◌}
use Rattle.std.proofs.lemmas.Grind.{common_steps}
use Rattle.rdx_lang.proofs.PatternEquations.{pattern_nt, pattern_named, pattern_differ, pattern_in_hole, pattern_hide_hole, pattern_closed, pattern_seq}
use Rattle.rdx_lang.specs.Empty.{is_empty}
use Rattle.rdx_lang.specs.LeftNumbers.{left_number}
use Rattle.rdx_lang.specs.PatternView.{pattern_of, language_of, slot_of, items_of}
use Rattle.rdx_lang.specs.Patterns.{Pattern, nt, named, differ, in_hole, hide_hole, closed, seq, Items, Language}
use Rattle.rdx_lang.specs.declared.pattern.Ref.{Ref}
use Rattle.rdx_leftrec.specs.Inside.EmptyRules.{empty_by}
use Rattle.rdx_leftrec.specs.Inside.Numbers.{number_in}
use Rattle.rdx_leftrec.specs.Inside.Preorder.{pattern_ranks, items_ranks}
use Rattle.rdx_leftrec.proofs.Lists.{written}
use Rattle.rdx_leftrec.proofs.ranks.+ranking.Goals as goal

pub rank_nodes-returns-in-Nt-clause-ranks : goal.rank_nodes-returns-in-Nt-clause-ranks
rank_nodes-returns-in-Nt-clause-ranks t c =
    let L : Language = language_of c.args.nonterminals.now.language.now in
    let E : Ref → Bool = empty_by L c.args.empty.now in
    let R : Ref → ℕ = number_in L c.args.numbers.now in
    let old : List ℕ = c.args.ranks.now.items in
    let n : c.len-at.result ≡ length old = grind (arith, common_steps) in
    let w : c.write_root.new.ranks.items ≡ old ++ c.nonterminal-root.result.rank ∷ [] =
    written old c.push.new.self.items c.push.new.self.items c.write_root.new.ranks.items [] c.len-at.result c.nonterminal-root.result.rank n c.in_ok-push.ensures.items
    (sym (append-nil c.push.new.self.items)) c.write_root.ensures.rank in
    let e : pattern_of c.args.pat.now ≡ nt c.in-Nt.name = ap pattern_of c.in-Nt.is ∙ pattern_nt c.in-Nt.name in
    w ∙ ap (λ (k : ℕ). old ++ k ∷ []) c.nonterminal-root.ensures.rank ∙ ap (λ (p : Pattern). old ++ pattern_ranks E R p) (sym e)

pub rank_nodes-returns-in_ok-root-in-Named-clause-ranks : goal.rank_nodes-returns-in_ok-root-in-Named-clause-ranks
rank_nodes-returns-in_ok-root-in-Named-clause-ranks t c =
    let L : Language = language_of c.args.nonterminals.now.language.now in
    let E : Ref → Bool = empty_by L c.args.empty.now in
    let R : Ref → ℕ = number_in L c.args.numbers.now in
    let old : List ℕ = c.args.ranks.now.items in
    let n : c.len-at.result ≡ length old = grind (arith, common_steps) in
    let q : Pattern = pattern_of c.deref-in-Named.result.now in
    let w : c.write_root-in-Named.new.ranks.items ≡ old ++ c.in_ok-root-in-Named.root.rank ∷ pattern_ranks E R q =
    written old c.push.new.self.items c.rank_nodes-in-Named.new.ranks.items c.write_root-in-Named.new.ranks.items (pattern_ranks E R q) c.len-at.result c.in_ok-root-in-Named.root.rank n
    c.in_ok-push.ensures.items c.in_ok-part-in-Named.ensures.ranks c.write_root-in-Named.ensures.rank in
    let r : c.in_ok-root-in-Named.root.rank ≡ left_number E R q + 1 = c.in_ok-root-in-Named.ensures.rank ∙ ap (λ (k : ℕ). k + 1) c.in_ok-part-in-Named.ensures.rank in
    let v : c.write_root-in-Named.new.ranks.items ≡ old ++ (left_number E R q + 1) ∷ pattern_ranks E R q = w ∙ ap (λ (k : ℕ). old ++ k ∷ pattern_ranks E R q) r in
    elim c.in-Named.is [
      | inl i ↦
          let e : pattern_of c.args.pat.now ≡ named i.0 q = ap pattern_of i.1 ∙ pattern_named i.0 c.in-Named.inner ∙ ap (λ p. named i.0 (pattern_of p)) (sym c.deref-in-Named.ensures) in
          v ∙ ap (λ (p : Pattern). old ++ pattern_ranks E R p) (sym e)
      | inr j ↦ elim j [
        | inl i ↦
            let e : pattern_of c.args.pat.now ≡ closed q = ap pattern_of i ∙ pattern_closed c.in-Named.inner ∙ ap (λ p. closed (pattern_of p)) (sym c.deref-in-Named.ensures) in
            v ∙ ap (λ (p : Pattern). old ++ pattern_ranks E R p) (sym e)
        | inr i ↦
            let e : pattern_of c.args.pat.now ≡ differ i.0 q = ap pattern_of i.1 ∙ pattern_differ i.0 c.in-Named.inner ∙ ap (λ p. differ i.0 (pattern_of p)) (sym c.deref-in-Named.ensures) in
            v ∙ ap (λ (p : Pattern). old ++ pattern_ranks E R p) (sym e)
      ]
    ]

pub rank_nodes-returns-in_ok-root-in-HideHole-clause-ranks : goal.rank_nodes-returns-in_ok-root-in-HideHole-clause-ranks
rank_nodes-returns-in_ok-root-in-HideHole-clause-ranks t c =
    let L : Language = language_of c.args.nonterminals.now.language.now in
    let E : Ref → Bool = empty_by L c.args.empty.now in
    let R : Ref → ℕ = number_in L c.args.numbers.now in
    let old : List ℕ = c.args.ranks.now.items in
    let n : c.len-at.result ≡ length old = grind (arith, common_steps) in
    let q : Pattern = pattern_of c.deref-in-HideHole.result.now in
    let w : c.write_root-in-HideHole.new.ranks.items ≡ old ++ c.in_ok-root-in-HideHole.root.rank ∷ pattern_ranks E R q =
    written old c.push.new.self.items c.rank_nodes-in-HideHole.new.ranks.items c.write_root-in-HideHole.new.ranks.items (pattern_ranks E R q) c.len-at.result c.in_ok-root-in-HideHole.root.rank n
    c.in_ok-push.ensures.items c.in_ok-part-in-HideHole.ensures.ranks c.write_root-in-HideHole.ensures.rank in
    let r : c.in_ok-root-in-HideHole.root.rank ≡ left_number E R q + 1 = c.in_ok-root-in-HideHole.ensures.rank ∙ ap (λ (k : ℕ). k + 1) c.in_ok-part-in-HideHole.ensures.rank in
    let e : pattern_of c.args.pat.now ≡ hide_hole q =
    ap pattern_of c.in-HideHole.is ∙ pattern_hide_hole c.in-HideHole.inner ∙ ap (λ p. hide_hole (pattern_of p)) (sym c.deref-in-HideHole.ensures) in
    w ∙ ap (λ (k : ℕ). old ++ k ∷ pattern_ranks E R q) r ∙ ap (λ (p : Pattern). old ++ pattern_ranks E R p) (sym e)

pub rank_nodes-returns-in_ok-root-in-InHole-clause-ranks : goal.rank_nodes-returns-in_ok-root-in-InHole-clause-ranks
rank_nodes-returns-in_ok-root-in-InHole-clause-ranks t c =
    let L : Language = language_of c.args.nonterminals.now.language.now in
    let E : Ref → Bool = empty_by L c.args.empty.now in
    let R : Ref → ℕ = number_in L c.args.numbers.now in
    let old : List ℕ = c.args.ranks.now.items in
    let n : c.len-at.result ≡ length old = grind (arith, common_steps) in
    let q : Pattern = pattern_of c.deref.result.now in
    let r : Pattern = pattern_of c.deref-in-InHole.result.now in
    let both : List ℕ = pattern_ranks E R q ++ pattern_ranks E R r in
    let m : c.rank_nodes-in-InHole.new.ranks.items ≡ c.push.new.self.items ++ both =
    c.in_ok-right-in-InHole.ensures.ranks ∙ ap (λ (ns : List ℕ). ns ++ pattern_ranks E R r) c.in_ok-left-in-InHole.ensures.ranks
    ∙ append_assoc c.push.new.self.items (pattern_ranks E R q) (pattern_ranks E R r) in
    let w : c.write_root-in-InHole.new.ranks.items ≡ old ++ c.in_ok-root-in-InHole.root.rank ∷ both =
    written old c.push.new.self.items c.rank_nodes-in-InHole.new.ranks.items c.write_root-in-InHole.new.ranks.items both c.len-at.result c.in_ok-root-in-InHole.root.rank n
    c.in_ok-push.ensures.items m c.write_root-in-InHole.ensures.rank in
    let a : c.in_ok-left-in-InHole.left.rank ≡ left_number E R q = c.in_ok-left-in-InHole.ensures.rank in
    let b : c.in_ok-left-in-InHole.left.empty ≡ is_empty E q = c.in_ok-left-in-InHole.ensures.empty in
    let d : c.in_ok-right-in-InHole.right.rank ≡ left_number E R r = c.in_ok-right-in-InHole.ensures.rank in
    let k : c.in_ok-root-in-InHole.root.rank ≡ left_number E R (in_hole q r) = c.in_ok-root-in-InHole.ensures.rank ∙ (λ i. max (a i) (if b i then d i else 0) + 1) in
    let e : pattern_of c.args.pat.now ≡ in_hole q r =
    ap pattern_of c.in-InHole.is ∙ pattern_in_hole c.in-InHole.left c.in-InHole.right ∙ (λ i. in_hole (pattern_of (sym c.deref.ensures i)) (pattern_of (sym c.deref-in-InHole.ensures i))) in
    w ∙ ap (λ (i : ℕ). old ++ i ∷ both) k ∙ ap (λ (p : Pattern). old ++ pattern_ranks E R p) (sym e)

pub rank_nodes-returns-in_ok-rank_items-in-Seq-clause-ranks : goal.rank_nodes-returns-in_ok-rank_items-in-Seq-clause-ranks
rank_nodes-returns-in_ok-rank_items-in-Seq-clause-ranks t c =
    let L : Language = language_of c.args.nonterminals.now.language.now in
    let E : Ref → Bool = empty_by L c.args.empty.now in
    let R : Ref → ℕ = number_in L c.args.numbers.now in
    let old : List ℕ = c.args.ranks.now.items in
    let ps : Items = items_of (map slot_of c.in-Seq.items.items) in
    let m : c.rank_items.new.ranks.items ≡ (old ++ 0 ∷ []) ++ items_ranks E R ps =
    c.in_ok-rank_items-in-Seq.ensures ∙ (λ i. c.in_ok-push.ensures.items i ++ items_ranks E R (items_of (map slot_of (c.deref-in-Seq.ensures.value i)))) in
    let e : pattern_of c.args.pat.now ≡ seq ps = ap pattern_of c.in-Seq.is ∙ pattern_seq c.in-Seq.items in
    m ∙ append_assoc old (0 ∷ []) (items_ranks E R ps) ∙ ap (λ (p : Pattern). old ++ pattern_ranks E R p) (sym e)
