-- The answers on repetitions.
use Rattle.std.proofs.Common.{arith, ◌≡◌, ◌∙◌, ℕ, ◌+◌, ◌++◌, List, [], ◌∷◌, drop, map, length, refl, ap, sym, subst}
use Rattle.std.proofs.lemmas.Grind.{common_steps}
use Rattle.std.proofs.lemmas.List.{nil_from_length, length-map}
use Rattle.std.proofs.lemmas.Result.{IfOk-weaker}
use Rattle.rdx_term.specs.Tree.{trees}
use Rattle.rdx_term.specs.View.{tree_of, trees_of}
use Rattle.rdx_lang.proofs.ItemsAhead.{ahead-many}
use Rattle.rdx_lang.proofs.Rest.{rest_at, rest_none}
use Rattle.rdx_lang.specs.Bindings.{Binding}
use Rattle.rdx_lang.specs.Checked.{language_in}
use Rattle.rdx_lang.specs.Collecting.{HasExactly}
use Rattle.rdx_lang.specs.Names.{names}
use Rattle.rdx_lang.specs.Patterns.{Pattern, Items, Language, many}
use Rattle.rdx_lang.specs.PatternView.{pattern_of, slot_of, items_of}
use Rattle.rdx_lang.specs.Rules.{Match, MatchItems}
use Rattle.rdx_lang.specs.Shown.{binding_of, bindings_of}
use Rattle.rdx_bind.proofs.AcrossRows.{bindings_are_maps}
use Rattle.rdx_bind.proofs.PartListings.{no_bindings}
use Rattle.rdx_term.specs.Tree.{cons}
use Rattle.rdx_term.specs.Tree.{nil as no_trees}
use Rattle.rdx_lang.proofs.Collecting.{In_along}
use Rattle.rdx_lang.proofs.NameLaws.{match-ascends, names-ascend}
use Rattle.rdx_lang.specs.Ascending.{IsAscending}
use Rattle.rdx_lang.specs.Bindings.{name_cmp, of_pairs}
use Rattle.rdx_lang.specs.BindingView.{pairs_of}
use Rattle.rdx_direct.proofs.GoingLaws.{goes_first, goes_nowhere, none_found, fits_false}
use Rattle.rdx_direct.proofs.ItemLaws.{still_end}
use Rattle.rdx_direct.proofs.RunLaws.{runs_start, runs_next, runs_last, none_further, none_matches, wrong_length, ends_none, ends_from, ends_equal, sole_nothing, sole_found}
use Rattle.rdx_direct.specs.Inside.Going.{Goes, EndsAt, Sole}
use Rattle.rdx_direct.proofs.walk.Walk.+walk.Goals as goal

pub go_items-returns-in-Many : goal.go_items-returns-in-Many
go_items-returns-in-Many t c =
    let L : Language = language_in c.args.self.now.language.now in
    let items = c.args.items.now in
    let ts = c.args.ts.now in
    let i : ℕ = c.loop-i.i in
    let found : List Binding = bindings_of c.loop-i.found.items in
    let p : Pattern = pattern_of c.in-Many.pat in
    let qs : Items = items_of (map slot_of (drop (i + 1) items)) in
    let e : items_of (map slot_of (drop i items)) ≡ many p c.in-Many.length qs = ahead-many items i c.index-items-i.result (omega arith) c.index-items-i.is c.in-Many.pat c.in-Many.length c.in-Many.is in
    IfOk-weaker c.go_many.result _ _ (λ v h.
    let k : HasExactly (bindings_of v.items) (Goes (MatchItems L (many p c.in-Many.length qs) (trees_of (drop i ts))) found) =
    subst (λ x. HasExactly (bindings_of v.items) (Goes (MatchItems L (many p c.in-Many.length (items_of (map slot_of x))) (trees_of (drop i ts))) found)) c.split_at.ensures.back
    (subst (λ x. HasExactly (bindings_of v.items) (Goes (MatchItems L (many p c.in-Many.length (items_of (map slot_of c.split_at.result.1.now))) (trees_of x)) found)) c.split_at-in-Many.ensures.back h) in
    still_end (items_of (map slot_of items)) (trees_of ts) (bindings_of c.args.given.items) found (bindings_of v.items) c.loop-i.invariant.1
    (subst (λ x. HasExactly (bindings_of v.items) (Goes (MatchItems L x (trees_of (drop i ts))) found)) (sym e) k)) c.go_many.ensures

pub go_end-returns-then-rest-ts : goal.go_end-returns-then-rest-ts
go_end-returns-then-rest-ts t c =
    let L : Language = language_in c.args.self.now.language.now in
    let slots = map slot_of c.args.rest.now in
    let ts = map tree_of c.args.ts.now in
    let e : length slots ≡ length c.args.rest.now = length-map c.args.rest.now slot_of in
    let f : length ts ≡ length c.args.ts.now = length-map c.args.ts.now tree_of in
    ends_none L c.args.names.now c.args.length.now (items_of slots) (trees ts) (bindings_of c.args.turns.now) (bindings_of c.args.given.now) (bindings_of c.new.result.items) (ap bindings_of c.new.ensures.items)
    (λ b m. wrong_length slots ts b (c.if-are_single.ensures refl) (λ n. absurd (omega arith)) m)

pub go_end-returns-then-is_empty : goal.go_end-returns-then-is_empty
go_end-returns-then-is_empty t c =
    let L : Language = language_in c.args.self.now.language.now in
    let behind : List Binding = bindings_of c.in_ok-behind.behind.items in
    let gs : List Binding = bindings_of c.args.given.now in
    let n : behind ≡ [] = no_bindings c.in_ok-behind.behind.items (grind (arith, common_steps)) in
    let h : HasExactly behind (Goes (MatchItems L (items_of (map slot_of c.args.rest.now)) (trees_of c.args.ts.now)) gs) =
    subst (λ x. HasExactly behind (Goes (MatchItems L (items_of (map slot_of c.args.rest.now)) (trees_of c.args.ts.now)) x)) c.in_ok-shared.ensures c.in_ok-behind.ensures in
    ends_from L c.args.names.now c.args.length.now (items_of (map slot_of c.args.rest.now)) (trees_of c.args.ts.now) (bindings_of c.args.turns.now) gs c.requires.ascending (bindings_are_maps c.args.given.now)
    behind behind h (goes_nowhere behind behind n n)

pub go_end-returns : goal.go_end-returns
go_end-returns t c =
    let L : Language = language_in c.args.self.now.language.now in
    let behind : List Binding = bindings_of c.in_ok-behind.behind.items in
    let gs : List Binding = bindings_of c.args.given.now in
    let h : HasExactly behind (Goes (MatchItems L (items_of (map slot_of c.args.rest.now)) (trees_of c.args.ts.now)) gs) =
    subst (λ x. HasExactly behind (Goes (MatchItems L (items_of (map slot_of c.args.rest.now)) (trees_of c.args.ts.now)) x)) c.in_ok-shared.ensures c.in_ok-behind.ensures in
    ends_from L c.args.names.now c.args.length.now (items_of (map slot_of c.args.rest.now)) (trees_of c.args.ts.now) (bindings_of c.args.turns.now) gs c.requires.ascending (bindings_are_maps c.args.given.now)
    behind (bindings_of c.in_ok-found.found.items) h c.in_ok-found.ensures

pub turn-returns-then-is_plain-clause-some : goal.turn-returns-then-is_plain-clause-some
turn-returns-then-is_plain-clause-some t c =
    sole_nothing (c.if-is_plain.ensures refl) (c.new-then-is_plain.ensures ∙ ap (λ ps. of_pairs (pairs_of ps)) c.new.ensures.items) (c.in_ok-fits.ensures.0 c.if-not-branch.false)

pub turn-returns-then-not-branch-clause-none : goal.turn-returns-then-not-branch-clause-none
turn-returns-then-not-branch-clause-none t c =
    λ b m. fits_false c.in_ok-fits.field-0 c.if-not-branch.true c.in_ok-fits.ensures (record { binding = b; matched = m })

pub turn-returns-in_default-clause-none : goal.turn-returns-in_default-clause-none
turn-returns-in_default-clause-none t c =
    let gs : List Binding = bindings_of c.in_ok-given.given.items in
    let k : HasExactly (bindings_of c.in_ok-found.found.items) (Match (language_in c.args.self.now.language.now) (pattern_of c.args.pat.now) (tree_of c.args.t.now)) =
    goes_first gs (bindings_of c.in_ok-found.found.items) (λ b r. match-ascends r) c.in_ok-given.ensures c.in_ok-found.ensures in
    let n : length c.in_ok-found.found.items ≡ 0 = grind (arith, common_steps) in
    λ b m. none_found c.in_ok-found.found.items n k b m

pub turn-returns-clause-some : goal.turn-returns-clause-some
turn-returns-clause-some t c =
    let gs : List Binding = bindings_of c.in_ok-given.given.items in
    let k : HasExactly (bindings_of c.in_ok-found.found.items) (Match (language_in c.args.self.now.language.now) (pattern_of c.args.pat.now) (tree_of c.args.t.now)) =
    goes_first gs (bindings_of c.in_ok-found.found.items) (λ b r. match-ascends r) c.in_ok-given.ensures c.in_ok-found.ensures in
    let n : length c.pop.new.self.items ≡ 0 = grind (arith, common_steps) in
    let z : c.pop.new.self.items ≡ [] = nil_from_length c.pop.new.self.items n in
    let e : bindings_of c.in_ok-found.found.items ≡ bindings_of c.pop.new.self.items ++ binding_of c.in-Some.binding ∷ [] = grind (arith, common_steps) in
    sole_found (binding_of c.in-Some.binding) (bindings_of c.in_ok-found.found.items) (e ∙ ap (λ ys. bindings_of ys ++ binding_of c.in-Some.binding ∷ []) z) k

pub go_many-loop-i-init : goal.go_many-loop-i-init
go_many-loop-i-init t c =
    let L : Language = language_in c.args.self.now.language.now in
    runs_start L (pattern_of c.args.pat.now) c.args.length.now (items_of (map slot_of c.args.rest.now)) (trees_of c.args.ts.now) (bindings_of c.args.given.items)
    (bindings_of c.new-turns.result.items) (bindings_of c.new-found.result.items) (ap bindings_of c.new-turns.ensures.items) (ap bindings_of c.new-found.ensures.items)

pub go_many-go_end-requires : goal.go_many-go_end-requires
go_many-go_end-requires t c =
    let e : c.deref.result.now ≡ names (pattern_of c.args.pat.now) = c.deref.ensures.value ∙ c.in_ok-names.ensures in (
      omega arith,
      (
        subst (IsAscending name_cmp) (sym e) (names-ascend (pattern_of c.args.pat.now)),
        λ b j. c.loop-i.invariant.bound b (In_along _ _ (ap bindings_of c.deref-in-loop-i.ensures.value) j) ∙ sym e,
      ),
    )

pub go_many-go_end-requires-2 : goal.go_many-go_end-requires-2
go_many-go_end-requires-2 t c =
    let e : c.deref-2.result.now ≡ names (pattern_of c.args.pat.now) = c.deref-2.ensures.value ∙ c.in_ok-names.ensures in (
      omega arith,
      (
        subst (IsAscending name_cmp) (sym e) (names-ascend (pattern_of c.args.pat.now)),
        λ b j. c.loop-i.invariant.bound b (In_along _ _ (ap bindings_of c.deref-3.ensures.value) j) ∙ sym e,
      ),
    )

pub go_many-returns-in_default : goal.go_many-returns-in_default
go_many-returns-in_default t c =
    let L : Language = language_in c.args.self.now.language.now in
    let p : Pattern = pattern_of c.args.pat.now in
    let ps : Items = items_of (map slot_of c.args.rest.now) in
    let gs : List Binding = bindings_of c.args.given.items in
    let ts = c.args.ts.now in
    let i : ℕ = c.loop-i.i in
    let cs : List Binding = bindings_of c.loop-i.turns.items in
    let found : List Binding = bindings_of c.loop-i.found.items in
    let more : List Binding = bindings_of c.in_ok-more.more.items in
    let h : HasExactly more (Goes (EndsAt L (names p) c.args.length.now ps (trees_of (drop i ts)) cs) gs) =
    ends_equal (c.deref.ensures.value ∙ c.in_ok-names.ensures) (ap trees_of c.split_at.ensures.back) (ap bindings_of c.deref-in-loop-i.ensures.value) (ap bindings_of c.deref-in-loop-i-2.ensures.value) c.in_ok-more.ensures in
    let u = c.index-ts-i.result in
    let e : trees_of (drop i ts) ≡ cons (tree_of u) (trees_of (drop (i + 1) ts)) = ap trees (rest_at tree_of ts i u (omega arith) c.index-ts-i.is) in
    let f : (b : Binding) → Match L p (tree_of u) b → ⊥ = rw c.in_default.is at c.in_ok-turn.ensures.none in
    runs_last L p c.args.length.now ps (trees_of ts) gs (trees_of (drop i ts)) cs found (bindings_of c.add_all.new.found.items) more
    (none_matches L p c.args.length.now ps (trees_of ts) gs cs (tree_of u) (trees_of (drop (i + 1) ts)) (trees_of (drop i ts)) e f) h c.in_ok-add_all.ensures c.loop-i.invariant

pub go_many-loop-i-preserved : goal.go_many-loop-i-preserved
go_many-loop-i-preserved t c =
    let L : Language = language_in c.args.self.now.language.now in
    let p : Pattern = pattern_of c.args.pat.now in
    let ps : Items = items_of (map slot_of c.args.rest.now) in
    let gs : List Binding = bindings_of c.args.given.items in
    let ts = c.args.ts.now in
    let i : ℕ = c.loop-i.i in
    let cs : List Binding = bindings_of c.loop-i.turns.items in
    let found : List Binding = bindings_of c.loop-i.found.items in
    let more : List Binding = bindings_of c.in_ok-more.more.items in
    let h : HasExactly more (Goes (EndsAt L (names p) c.args.length.now ps (trees_of (drop i ts)) cs) gs) =
    ends_equal (c.deref.ensures.value ∙ c.in_ok-names.ensures) (ap trees_of c.split_at.ensures.back) (ap bindings_of c.deref-in-loop-i.ensures.value) (ap bindings_of c.deref-in-loop-i-2.ensures.value) c.in_ok-more.ensures in
    let u = c.index-ts-i.result in
    let e : trees_of (drop i ts) ≡ cons (tree_of u) (trees_of (drop (i + 1) ts)) = ap trees (rest_at tree_of ts i u (omega arith) c.index-ts-i.is) in
    let f : Sole (Match L p (tree_of u)) (binding_of c.in-Some.turn) = rw c.in-Some.is at c.in_ok-turn.ensures.some in
    let g : bindings_of c.push.new.self.items ≡ cs ++ binding_of c.in-Some.turn ∷ [] = grind (arith, common_steps) in
    runs_next L p c.args.length.now ps (trees_of ts) gs cs (bindings_of c.push.new.self.items) (binding_of c.in-Some.turn) (tree_of u) (trees_of (drop (i + 1) ts)) g f
    (trees_of (drop i ts)) found (bindings_of c.add_all.new.found.items) more e h c.in_ok-add_all.ensures c.loop-i.invariant

pub go_many-returns : goal.go_many-returns
go_many-returns t c =
    let L : Language = language_in c.args.self.now.language.now in
    let p : Pattern = pattern_of c.args.pat.now in
    let ps : Items = items_of (map slot_of c.args.rest.now) in
    let gs : List Binding = bindings_of c.args.given.items in
    let ts = c.args.ts.now in
    let i : ℕ = c.loop-i.i in
    let cs : List Binding = bindings_of c.loop-i.turns.items in
    let found : List Binding = bindings_of c.loop-i.found.items in
    let more : List Binding = bindings_of c.in_ok-more-2.more.items in
    let z : trees_of (drop i ts) ≡ no_trees = ap trees (rest_none tree_of ts i (omega arith)) in
    let y : trees_of (drop (length ts) ts) ≡ no_trees = ap trees (rest_none tree_of ts (length ts) (omega arith)) in
    let h : HasExactly more (Goes (EndsAt L (names p) c.args.length.now ps (trees_of (drop i ts)) cs) gs) =
    ends_equal (c.deref-2.ensures.value ∙ c.in_ok-names.ensures) (ap trees_of c.split_at-2.ensures.back ∙ y ∙ sym z) (ap bindings_of c.deref-3.ensures.value) (ap bindings_of c.deref-4.ensures.value) c.in_ok-more-2.ensures in
    runs_last L p c.args.length.now ps (trees_of ts) gs (trees_of (drop i ts)) cs found (bindings_of c.add_all-2.new.found.items) more
    (none_further L p c.args.length.now ps (trees_of ts) gs cs (trees_of (drop i ts)) z) h c.in_ok-add_all-2.ensures c.loop-i.invariant
