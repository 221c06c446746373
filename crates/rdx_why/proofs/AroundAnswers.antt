-- What is asked around a hole is answered as the splits are.
use Rattle.std.proofs.Common.{◌≡◌, ℕ, List, Bool, Option, None, Some, sym, subst}
use Rattle.std.specs.Prelude.{IfNone, IfSome, IsFalse, IsTrue}
use Rattle.rdx_term.specs.Items.{put_at}
use Rattle.rdx_term.specs.Tree.{Tree, list, Trees}
use Rattle.rdx_term.specs.Tree.{hole as the_hole}
use Rattle.rdx_lang.specs.Bindings.{Binding, no_names, visible}
use Rattle.rdx_lang.specs.Members.{In}
use Rattle.rdx_lang.specs.Patterns.{Pattern, seq, Items, Language}
use Rattle.rdx_lang.specs.PatternView.{items_of}
use Rattle.rdx_lang.specs.Rules.{Match, match_seq, SplitItems}
use Rattle.rdx_lang.proofs.RuleSteps.{list_inside}
use Rattle.rdx_deriv.specs.Uses.{nowhere, at}
use Rattle.rdx_why.specs.Inside.Around.{Asks, with_hole}
use Rattle.rdx_why.specs.Inside.Laying.{IsAnswered}
use Rattle.rdx_why.proofs.AskedLengths.{answered-used, used-answered}
use Rattle.rdx_why.proofs.HoleLists.{split-round, round-split}
use Rattle.rdx_why.proofs.LaidItems.{AreUsed, one_splits}

module _ {L : Language} {p : Pattern} {ts : Trees} {k : ℕ} {D : Tree} {q : Pattern} {U : Tree} (a : Asks L p ts k D q U) (m : Option ℕ) (s : Tree) where
  -- a split that is seen so
  record Seen (e : Binding) : Type 0 where
    pub whole : Binding
    pub splits : SplitItems L (items_of a.slots) ts k D s whole
    pub same : e ≡ visible whole

  seen_split : (e : Binding) → IsAnswered L p (list m ts) (at k D s) e → Seen e
  seen_split e h =
      let u =
      answered-used L (at k D s) (items_of a.slots) m ts e (subst (λ (r : Pattern). IsAnswered L r (list m ts) (at k D s) e) a.way.items h) in
      record { whole = u.0; splits = of_used u.1; same = u.2 }
    where
      of_used : {os : Items} {d : Binding} → AreUsed L (at k D s) os ts d → SplitItems L os ts k D s d
      of_used (one_splits h) = h

  -- where it is answered of the split, it is answered around the hole
  pub split-around : (e : Binding) → IsAnswered L p (list m ts) (at k D s) e → IsAnswered L q U nowhere e
  split-around e h =
      let d = seen_split e h in
      let round = split-round L a.by a.nothing a.slots a.place a.way.goes a.way.alone d.splits in
      let os = items_of (with_hole a.place a.slots) in
      let z : Match L q U d.whole =
      subst (λ (r : Pattern). Match L r U d.whole) (sym a.asked)
      (subst (λ (u : Tree). Match L (seq os) u d.whole) (sym a.around.1) (match_seq round.0)) in
      record { whole = d.whole; holds = z; seen = d.same }

  -- and the other way, where there is some split
  pub around-split : (c : Binding) → IsAnswered L p (list m ts) (at k D s) c → (e : Binding) → IsAnswered L q U nowhere e
      → IsAnswered L p (list m ts) (at k D s) e
  around-split c h e g =
      let d = seen_split c h in
      let round = split-round L a.by a.nothing a.slots a.place a.way.goes a.way.alone d.splits in
      let os = items_of (with_hole a.place a.slots) in
      let z : Match L (seq os) (list a.around.0 (put_at ts k the_hole)) g.whole =
      subst (λ (u : Tree). Match L (seq os) u g.whole) a.around.1 (subst (λ (r : Pattern). Match L r U g.whole) a.asked g.holds) in
      let h =
      round-split L a.by a.nothing a.slots a.place ts k a.way.goes a.only round.1 (list_inside z) in
      subst (λ (r : Pattern). IsAnswered L r (list m ts) (at k D s) e) (sym a.way.items)
      (subst (λ (b : Binding). IsAnswered L (seq (items_of a.slots)) (list m ts) (at k D s) b) (sym g.seen) (used-answered m (one_splits h)))

  -- so a length that is found around the hole is one of the split
  pub found_around : (P : Binding → ℕ → Type 0) (c : Binding) → IsAnswered L p (list m ts) (at k D s) c → (r : Option ℕ)
      → IfSome r (λ n. (e : Binding) × IsAnswered L q U nowhere e × P e n) → IfSome r (λ n. (e : Binding) × IsAnswered L p (list m ts) (at k D s) e × P e n)
  found_around P c h None f = tt
  found_around P c h (Some n) f = (f.0, around-split c h f.0 f.1, f.2)

  pub none_around : (P : Binding → ℕ → Type 0) (r : Option ℕ) → IfNone r ((e : Binding) (n : ℕ) → IsAnswered L q U nowhere e → P e n → ⊥)
      → IfNone r ((e : Binding) (n : ℕ) → IsAnswered L p (list m ts) (at k D s) e → P e n → ⊥)
  none_around P None f = λ e n h g. f e n (split-around e h) g
  none_around P (Some n) f = tt

-- ---- what is made of an answer

-- where none of what is listed is such, none is
pub none_listed : (R : Binding → Type 0) (bs : List Binding) (P : Binding → ℕ → Type 0) (r : Option ℕ) → ((e : Binding) → R e → In e bs)
    → IfNone r ((e : Binding) (n : ℕ) → In e bs → P e n → ⊥) → IfNone r ((e : Binding) (n : ℕ) → R e → P e n → ⊥)
none_listed R bs P None f h = λ e n s g. h e n (f e s) g
none_listed R bs P (Some n) f h = tt

-- what holds of a weaker one
pub if_some : {A : Type 0} (o : Option A) (P Q : A → Type 0) → ((a : A) → P a → Q a) → IfSome o P → IfSome o Q
if_some None P Q f h = tt
if_some (Some a) P Q f h = f a h

-- the binding of no name is one, where this is so
pub some_where : {A : Type 0} (f : A → Binding) (R : Binding → Type 0) (b : Bool) (o : Option A)
    → IfSome o (λ x. IsTrue b × (f x ≡ no_names)) → (IsTrue b → R no_names) → IfSome o (λ x. R (f x))
some_where f R b None h y = tt
some_where f R b (Some x) h y = subst R (sym h.1) (y h.0)

pub none_where : {A : Type 0} (R : Binding → Type 0) (b : Bool) (o : Option A) → IfNone o (IsFalse b) → (IsFalse b → (c : Binding) → R c → ⊥)
    → IfNone o ((c : Binding) → R c → ⊥)
none_where R b None h y = y h
none_where R b (Some x) h y = tt
