use Rattle.std.proofs.Common.{◌≡◌, ◌+◌, [], ℕ, List, true, false, length, map, drop, sym, ◌∙◌, ap, subst, append-nil, Bool, HashMap, Bor, option_copied}
use Rattle.rdx_term.specs.View.{tree_of}
use Rattle.rdx_lang.specs.Members.{In}
use Rattle.rdx_lang.specs.Mismatches.{has_differ}
use Rattle.rdx_lang.specs.Patterns.{Pattern, wild, of_kind, except, prefix, hole, lit, nt, named, differ, in_hole, hide_hole, closed, seq}
use Rattle.rdx_lang.specs.PatternView.{Slot, just, repeated, pattern_of, slot_of, items_of}
use Rattle.rdx_lang.proofs.PatternEquations.{pattern_wild, pattern_kind, pattern_except, pattern_prefix, pattern_hole, pattern_lit, pattern_nt, pattern_named, pattern_differ, pattern_in_hole, pattern_hide_hole, pattern_closed, pattern_seq, slot_one, slot_many}
use Rattle.rdx_lang.proofs.Rest.{rest_at, rest_none}
use Rattle.rdx_nodes.specs.Nodes.{pattern_at, slots_at, AreEntries}
use Rattle.rdx_nodes.specs.Settings.{patterns_at_hand}
use Rattle.rdx_nodes.specs.Inside.Forgetting.{binders, Forgets, ForgetsItems, forgets_wild, forgets_kind, forgets_except, forgets_prefix, forgets_hole, forgets_lit, forgets_nt, forgets_named, keeps_named, forgets_differ, forgets_in_hole, forgets_hide_hole, forgets_seq, forgets_nil}
use Rattle.rdx_nodes.specs.Inside.Numbering.{ForgetsSlot, forgets_just, forgets_repeated}
use Rattle.rdx_nodes.specs.Inside.Once.{bytes_of, is_once, AreTold, Tells}
use Rattle.rdx_nodes.specs.declared.node.Entry.{Entry}
use Rattle.rdx_nodes.proofs.Adding.{adds-then, adds-pattern, adds-entries}
use Rattle.rdx_nodes.proofs.NodePatterns.{entries-push}
use Rattle.rdx_nodes.proofs.Numbered.{left-anyhow, left-closed, left-made, left-open, left-through, entries-next}
use Rattle.rdx_nodes.proofs.OnceTold.{others-names}
use Rattle.rdx_nodes.proofs.setting.Setting.+numbering.Goals as goal

-- p is q without names, where it is the same as r
by_same : {xs : List (List ℕ)} {p r q : Pattern} → p ≡ r → Forgets xs r q → Forgets xs p q
by_same {xs} {p} {r} {q} e f = subst (λ (z : Pattern). Forgets xs z q) (sym e) f

-- what is told not to stand once is none of the names that are told
absent : {S : Type 0} (m : HashMap (Bor (List ℕ)) Bool S) (xs : List (List ℕ)) (x : List ℕ) → AreTold xs m → is_once m x ≡ false → In x xs → ⊥
absent m xs x told e i = let f : is_once m x ≡ true = (told x).0 i in cc

pub entries-loop-item-preserved : goal.entries-loop-item-preserved
entries-loop-item-preserved t c =
    let s = c.loop-item.self in
    let u = c.entry.new.self in
    let inv = c.loop-item.invariant in
    let a = c.in_ok-entry.ensures.adds in
    let es : List Entry = c.loop-item.entries.items in
    let e : Entry = c.in_ok-entry.entry in
    let items = c.args.items.now in
    let i : ℕ = c.loop-item.item-index in
    record {
      adds = adds-then c.args.self.now s u inv.adds a;
      entries = subst (λ (ds : List Entry). AreEntries (patterns_at_hand u) (length u.nodes.items) ds)
          (sym {A = List Entry} c.in_ok-push.ensures.items)
          (entries-push (patterns_at_hand u) (length u.nodes.items) es e (adds-entries s u a es inv.entries) c.in_ok-entry.ensures.entry);
      items = λ xs told rs h. entries-next xs s u a es e c.push.new.self.items (slot_of c.item-item.result) (map slot_of (drop (i + 1) items))
          (map slot_of (drop i items)) (items_of (map slot_of items)) inv.entries c.in_ok-push.ensures.items
          (rest_at slot_of items i c.item-item.result c.loop-item-test.true c.item-item.is) (c.in_ok-entry.ensures.slot xs told)
          (inv.items xs told) rs h;
    }

pub entries-returns-clause-items : goal.entries-returns-clause-items
entries-returns-clause-items t c xs told =
    let items = c.args.items.now in
    let i : ℕ = c.loop-item.item-index in
    let h = c.loop-item.invariant.items xs told []
    (subst (λ (zs : List Slot). ForgetsItems xs (items_of zs) (items_of [])) (sym (rest_none slot_of items i c.loop-item-test.false)) forgets_nil) in
    subst (λ (zs : List Slot). ForgetsItems xs (items_of (map slot_of items)) (items_of zs))
    (append-nil (slots_at (patterns_at_hand c.loop-item.self) c.loop-item.entries.items)) h

pub entry-returns-in_ok-number-in-One-clause-slot : goal.entry-returns-in_ok-number-in-One-clause-slot
entry-returns-in_ok-number-in-One-clause-slot t c xs told =
    subst (λ (x : Slot). ForgetsSlot xs x (just (pattern_at (patterns_at_hand c.number.new.self) c.in_ok-number-in-One.field-0)))
    (sym (ap slot_of c.in-One.is ∙ slot_one c.in-One.pat)) (forgets_just (c.in_ok-number-in-One.ensures.pattern xs told))

pub entry-returns-in_ok-names-in-Many-clause-entry : goal.entry-returns-in_ok-names-in-Many-clause-entry
entry-returns-in_ok-names-in-Many-clause-entry t c =
    let told = c.requires.once.told in
    let xs = c.requires.once.names in (
      c.in_ok-number-in-Many.ensures.number,
      c.in_ok-names-in-Many.ensures
          ∙ others-names c.args.once.now.told xs told (pattern_of c.in-Many.pat)
          (pattern_at (patterns_at_hand c.number-in-Many.new.self) c.in_ok-number-in-Many.number) (c.in_ok-number-in-Many.ensures.pattern xs told),
    )

pub entry-returns-in_ok-names-in-Many-clause-slot : goal.entry-returns-in_ok-names-in-Many-clause-slot
entry-returns-in_ok-names-in-Many-clause-slot t c xs told =
    subst (λ (x : Slot). ForgetsSlot xs x
    (repeated (pattern_at (patterns_at_hand c.number-in-Many.new.self) c.in_ok-number-in-Many.number) (option_copied c.other_length-length.result)))
    (sym (ap slot_of c.in-Many.is ∙ slot_many c.in-Many.pat c.in-Many.length))
    (forgets_repeated (c.in_ok-number-in-Many.ensures.pattern xs told) (c.other_length-length.ensures xs told))

pub number-returns-in-Wild-clause-pattern : goal.number-returns-in-Wild-clause-pattern
number-returns-in-Wild-clause-pattern t c =
    left-made c.args.once.now.told c.push.result (patterns_at_hand c.push.new.self) (pattern_of c.args.pat.now) wild
    (λ xs told. by_same (ap pattern_of c.in-Wild.is ∙ pattern_wild) forgets_wild) c.push.ensures.pattern

pub number-returns-in-Kind-clause-pattern : goal.number-returns-in-Kind-clause-pattern
number-returns-in-Kind-clause-pattern t c =
    left-made c.args.once.now.told c.push-in-Kind.result (patterns_at_hand c.push-in-Kind.new.self) (pattern_of c.args.pat.now)
    (of_kind c.in-Kind.kind)
    (λ xs told. by_same (ap pattern_of c.in-Kind.is ∙ pattern_kind c.in-Kind.kind) forgets_kind) c.push-in-Kind.ensures.pattern

pub number-returns-in-Except-clause-pattern : goal.number-returns-in-Except-clause-pattern
number-returns-in-Except-clause-pattern t c =
    left-made c.args.once.now.told c.push-in-Except.result (patterns_at_hand c.push-in-Except.new.self) (pattern_of c.args.pat.now)
    (except c.deref.result.now)
    (λ xs told. by_same (ap pattern_of c.in-Except.is ∙ pattern_except c.in-Except.names ∙ ap except (sym c.deref.ensures.value)) forgets_except)
    c.push-in-Except.ensures.pattern

pub number-returns-in-Prefix-clause-pattern : goal.number-returns-in-Prefix-clause-pattern
number-returns-in-Prefix-clause-pattern t c =
    left-made c.args.once.now.told c.push-in-Prefix.result (patterns_at_hand c.push-in-Prefix.new.self) (pattern_of c.args.pat.now)
    (prefix c.in-Prefix.start)
    (λ xs told. by_same (ap pattern_of c.in-Prefix.is ∙ pattern_prefix c.in-Prefix.start) forgets_prefix) c.push-in-Prefix.ensures.pattern

pub number-returns-in-Hole-clause-pattern : goal.number-returns-in-Hole-clause-pattern
number-returns-in-Hole-clause-pattern t c =
    left-made c.args.once.now.told c.push-in-Hole.result (patterns_at_hand c.push-in-Hole.new.self) (pattern_of c.args.pat.now) hole
    (λ xs told. by_same (ap pattern_of c.in-Hole.is ∙ pattern_hole) forgets_hole) c.push-in-Hole.ensures.pattern

pub number-returns-in-Lit-clause-pattern : goal.number-returns-in-Lit-clause-pattern
number-returns-in-Lit-clause-pattern t c =
    left-made c.args.once.now.told c.push-in-Lit.result (patterns_at_hand c.push-in-Lit.new.self) (pattern_of c.args.pat.now)
    (lit (tree_of c.in-Lit.term))
    (λ xs told. by_same (ap pattern_of c.in-Lit.is ∙ pattern_lit c.in-Lit.term) forgets_lit) c.push-in-Lit.ensures.pattern

pub number-returns-in-Nt-clause-pattern : goal.number-returns-in-Nt-clause-pattern
number-returns-in-Nt-clause-pattern t c =
    left-made c.args.once.now.told c.nonterminal.result (patterns_at_hand c.nonterminal.new.self) (pattern_of c.args.pat.now) (nt c.in-Nt.name)
    (λ xs told. by_same (ap pattern_of c.in-Nt.is ∙ pattern_nt c.in-Nt.name) forgets_nt) c.nonterminal.ensures.pattern

pub number-returns-in_ok-part-in-HideHole-clause-pattern : goal.number-returns-in_ok-part-in-HideHole-clause-pattern
number-returns-in_ok-part-in-HideHole-clause-pattern t c =
    let e : pattern_of c.args.pat.now ≡ hide_hole (pattern_of c.deref-in-HideHole.result.now) =
    ap pattern_of c.in-HideHole.is ∙ pattern_hide_hole c.in-HideHole.inner ∙ ap (λ p. hide_hole (pattern_of p)) (sym c.deref-in-HideHole.ensures) in
    left-made c.args.once.now.told c.push-in-HideHole.result (patterns_at_hand c.push-in-HideHole.new.self) (pattern_of c.args.pat.now)
    (hide_hole (pattern_at (patterns_at_hand c.number-in-HideHole.new.self) c.in_ok-part-in-HideHole.part))
    (λ xs told. by_same e (forgets_hide_hole (c.in_ok-part-in-HideHole.ensures.pattern xs told))) c.push-in-HideHole.ensures.pattern

pub number-returns-in_ok-entries-in-Seq-clause-pattern : goal.number-returns-in_ok-entries-in-Seq-clause-pattern
number-returns-in_ok-entries-in-Seq-clause-pattern t c =
    let e : pattern_of c.args.pat.now ≡ seq (items_of (map slot_of c.deref-in-Seq.result.now)) =
    ap pattern_of c.in-Seq.is ∙ pattern_seq c.in-Seq.items ∙ ap (λ xs. seq (items_of (map slot_of xs))) (sym c.deref-in-Seq.ensures.value) in
    left-made c.args.once.now.told c.push-in-Seq.result (patterns_at_hand c.push-in-Seq.new.self) (pattern_of c.args.pat.now)
    (seq (items_of (slots_at (patterns_at_hand c.entries.new.self) c.in_ok-entries-in-Seq.entries.items)))
    (λ xs told. by_same e (forgets_seq (c.in_ok-entries-in-Seq.ensures.items xs told))) c.push-in-Seq.ensures.pattern

pub number-returns-in-Named-clause-pattern : goal.number-returns-in-Named-clause-pattern
number-returns-in-Named-clause-pattern t c =
    let x : List ℕ = c.in-Named.name in
    let q = pattern_of c.deref-in-Named.result.now in
    let e : pattern_of c.args.pat.now ≡ named x q = ap pattern_of c.in-Named.is ∙ pattern_named x c.in-Named.inner
    ∙ ap (λ p. named x (pattern_of p)) (sym c.deref-in-Named.ensures) in
    let m = c.args.once.now.told in
    left-through m m c.number_named.result (patterns_at_hand c.number_named.new.self) (pattern_of c.args.pat.now) (named x q)
    (λ n h xs told. by_same e (h xs told)) c.number_named.ensures.pattern

pub number-returns-in_ok-part-in-Differ-clause-pattern : goal.number-returns-in_ok-part-in-Differ-clause-pattern
number-returns-in_ok-part-in-Differ-clause-pattern t c =
    let x : List ℕ = c.in-Differ.name in
    let e : pattern_of c.args.pat.now ≡ differ x (pattern_of c.deref-in-Differ.result.now) = ap pattern_of c.in-Differ.is
    ∙ pattern_differ x c.in-Differ.inner ∙ ap (λ p. differ x (pattern_of p)) (sym c.deref-in-Differ.ensures) in
    left-made c.args.once.now.told c.push-in-Differ.result (patterns_at_hand c.push-in-Differ.new.self) (pattern_of c.args.pat.now)
    (differ x (pattern_at (patterns_at_hand c.number.new.self) c.in_ok-part-in-Differ.part))
    (λ xs told. by_same e (forgets_differ (c.in_ok-part-in-Differ.ensures.pattern xs told))) c.push-in-Differ.ensures.pattern

pub number-returns-in-Closed-clause-pattern : goal.number-returns-in-Closed-clause-pattern
number-returns-in-Closed-clause-pattern t c =
    let q = pattern_of c.deref-in-Closed.result.now in
    let e : pattern_of c.args.pat.now ≡ closed q = ap pattern_of c.in-Closed.is ∙ pattern_closed c.in-Closed.inner
    ∙ ap (λ p. closed (pattern_of p)) (sym c.deref-in-Closed.ensures) in
    left-anyhow c.args.once.now.told c.number_closed.result (patterns_at_hand c.number_closed.new.self) (pattern_of c.args.pat.now) (closed q) e
    c.number_closed.ensures.pattern

pub number_named-returns-then-has-clause-pattern : goal.number_named-returns-then-has-clause-pattern
number_named-returns-then-has-clause-pattern t c =
    let m = c.args.once.now.told in
    let x : List ℕ = c.args.name.now in
    let q = pattern_of c.args.inner.now in
    let o : is_once m x ≡ true = ap (is_once m) (sym c.text.ensures.value) ∙ sym c.has.ensures ∙ c.if-has.true in
    left-through m m c.number.result (patterns_at_hand c.number.new.self) (named x q) q
    (λ n h xs told. forgets_named ((told x).1 o) (h xs told)) c.number.ensures.pattern

pub number_named-returns-clause-pattern : goal.number_named-returns-clause-pattern
number_named-returns-clause-pattern t c =
    let m = c.args.once.now.told in
    let x : List ℕ = c.args.name.now in
    let q = pattern_of c.args.inner.now in
    let o : is_once m x ≡ false = ap (is_once m) (sym c.text.ensures.value) ∙ sym c.has.ensures ∙ c.if-has.false in
    left-made m c.push.result (patterns_at_hand c.push.new.self) (named x q)
    (named x (pattern_at (patterns_at_hand c.number-2.new.self) c.in_ok-part.part))
    (λ xs told. keeps_named (absent m xs x told o) (c.in_ok-part.ensures.pattern xs told)) c.push.ensures.pattern

pub number_closed-returns-then-not-has_differ-clause-pattern : goal.number_closed-returns-then-not-has_differ-clause-pattern
number_closed-returns-then-not-has_differ-clause-pattern t c =
    let m = c.in_ok-once.once.told in
    let q = pattern_of c.args.inner.now in
    let b : bytes_of c.in_ok-places.places.items ≡ binders q = c.in_ok-places.ensures in
    let tells : Tells m (binders q) = subst (λ (zs : List (List ℕ)). Tells m zs) (ap bytes_of c.deref.ensures.value ∙ b)
    c.in_ok-once.ensures.told in
    let plain : has_differ q ≡ false = sym c.has_differ.ensures ∙ c.if-not-has_differ.true in
    left-open m c.number.result (patterns_at_hand c.number.new.self) q tells
    (λ x h. c.has_all.ensures c.if-has_all.true x
    (subst (λ (zs : List (List ℕ)). In x zs) (sym (ap bytes_of c.deref-2.ensures.value ∙ b)) h)) plain c.number.ensures.pattern

pub number_closed-returns-clause-pattern : goal.number_closed-returns-clause-pattern
number_closed-returns-clause-pattern t c =
    let m = c.in_ok-once.once.told in
    let q = pattern_of c.args.inner.now in
    let tells : Tells m (binders q) = subst (λ (zs : List (List ℕ)). Tells m zs) (ap bytes_of c.deref.ensures.value ∙ c.in_ok-places.ensures)
    c.in_ok-once.ensures.told in
    left-closed m c.push.result (patterns_at_hand c.push.new.self) q (pattern_at (patterns_at_hand c.number-2.new.self) c.in_ok-part.part)
    tells c.in_ok-part.ensures.pattern c.push.ensures.pattern

pub number-returns-in_ok-right-in-InHole-clause-pattern : goal.number-returns-in_ok-right-in-InHole-clause-pattern
number-returns-in_ok-right-in-InHole-clause-pattern t c =
    let s = c.number-in-InHole.new.self in
    let u = c.number-in-InHole-2.new.self in
    let j : ℕ = c.in_ok-left-in-InHole.left in
    let k : ℕ = c.in_ok-right-in-InHole.right in
    let l = pattern_of c.deref-in-InHole.result.now in
    let r = pattern_of c.deref-in-InHole-2.result.now in
    let e : pattern_of c.args.pat.now ≡ in_hole l r = ap pattern_of c.in-InHole.is ∙ pattern_in_hole c.in-InHole.left c.in-InHole.right
    ∙ (λ i. in_hole (pattern_of (sym c.deref-in-InHole.ensures i)) (pattern_of (sym c.deref-in-InHole-2.ensures i))) in
    let a = adds-pattern s u c.in_ok-right-in-InHole.ensures.adds j c.in_ok-left-in-InHole.ensures.number in
    left-made c.args.once.now.told c.push-in-InHole.result (patterns_at_hand c.push-in-InHole.new.self) (pattern_of c.args.pat.now)
    (in_hole (pattern_at (patterns_at_hand u) j) (pattern_at (patterns_at_hand u) k))
    (λ xs told. by_same e (forgets_in_hole (subst (λ (z : Pattern). Forgets xs l z) (sym a) (c.in_ok-left-in-InHole.ensures.pattern xs told))
    (c.in_ok-right-in-InHole.ensures.pattern xs told))) c.push-in-InHole.ensures.pattern
