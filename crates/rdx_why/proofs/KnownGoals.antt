-- Goals that have a derivation, of patterns without mismatch names: what is seen of one is on the way to it.
use Rattle.std.proofs.Common.{◌≡◌, ℕ, List, [], false, refl, sym, ◌∙◌, ap, subst}
use Rattle.rdx_term.specs.Tree.{Tree}
use Rattle.rdx_lang.specs.Bindings.{Binding, Mismatch, visible}
use Rattle.rdx_lang.specs.Mismatches.{has_differ}
use Rattle.rdx_lang.specs.Names.{names}
use Rattle.rdx_lang.specs.Patterns.{Pattern, Language}
use Rattle.rdx_lang.specs.Programs.{Program}
use Rattle.rdx_lang.specs.Rules.{Match, Split}
use Rattle.rdx_deriv.proofs.Sound.{what_holds_follows}
use Rattle.rdx_deriv.specs.Derivations.{Goal, matched, split, judged, Derivation, root}
use Rattle.rdx_deriv.specs.Laws.{Follows}
use Rattle.rdx_opened.specs.Picking.{picked}
use Rattle.rdx_opened.proofs.Made.{opened_plain}
use Rattle.rdx_opened.proofs.OpenedPlain.{opened_match-plain, opened_split-plain}
use Rattle.rdx_why.specs.Explaining.{CanBeAsked, Explains, seen}
use Rattle.rdx_why.specs.Inside.Forms.{IsPlain}
use Rattle.rdx_why.specs.Inside.Steps.{IsOnTheWay}
use Rattle.rdx_why.specs.Inside.Ways.{HasSeen, IsSeenGoal}

-- a binding without mismatch names is all that is seen of it
all_seen : (b : Binding) → b.differs ≡ [] → b ≡ visible b
all_seen b e = ap (λ (ds : List Mismatch). record { pairs = b.pairs; differs = ds }) e

-- so one that c says is seen of a match is that match
pub plain_seen : (L : Language) (l : List ℕ) (p : Pattern) (t : Tree) (c s : Binding) (g : Goal) → has_differ p ≡ false → HasSeen L p t c
    → s ≡ picked c (names p) → g ≡ matched l p t s → IsSeenGoal L l p t c g s
plain_seen L l p t c s g n h e k =
    let f : h.found ≡ visible h.found = all_seen h.found (opened_match-plain (opened_plain p n).opens h.matches) in
    let w : h.found ≡ s = f ∙ h.picks ∙ sym e in
    record {
      found = s;
      goal = k;
      matches = subst (λ (z : Binding). Match L p t z) w h.matches;
      seen = e ∙ sym h.picks ∙ ap visible w;
      picks = e;
    }

-- what is seen of a goal that follows, follows
plain_follows : (P : Program) (g : Goal) → IsPlain (seen g) → Follows P g → Follows P (seen g)
plain_follows P (matched l p t b) n f = record {
  language = f.language;
  named = f.named;
  known = f.known;
  here = subst (λ (c : Binding). Match f.language p t c) (all_seen b (opened_match-plain (opened_plain p n).opens f.here)) f.here;
}
plain_follows P (split l p t C s b) n f = record {
  language = f.language;
  named = f.named;
  known = f.known;
  here = subst (λ (c : Binding). Split f.language p t C s c) (all_seen b (opened_split-plain (opened_plain p n).opens f.here)) f.here;
}
plain_follows P (judged j a o) n f = f

seen-plain : (g : Goal) → IsPlain g → IsPlain (seen g)
seen-plain (matched l p t b) n = n
seen-plain (split l p t C s b) n = n
seen-plain (judged j a o) n = n

-- it is on the way, where it follows and may be asked
on_the_way : (P : Program) (g : Goal) → CanBeAsked P g → Follows P (seen g) → IsOnTheWay P (seen g)
on_the_way P (matched l p t b) a f = f
on_the_way P (split l p t C s b) a f = f
on_the_way P (judged j x o) a f = (f, a.1, a.0)

pub known_way : (P : Program) (g : Goal) → CanBeAsked P g → ((d : Derivation) × Explains P g d) → IsPlain g → IsOnTheWay P (seen g)
known_way P g a (d, e) n =
    let plain : IsPlain (seen (root d)) = subst IsPlain (sym e.of_goal) (seen-plain g n) in
    on_the_way P g a (subst (Follows P) e.of_goal (plain_follows P (root d) plain (what_holds_follows P d e.holds)))

seen-again : (g : Goal) → seen (seen g) ≡ seen g
seen-again (matched l p t b) = refl
seen-again (split l p t C s b) = refl
seen-again (judged j a o) = refl

-- what explains what is seen of a goal explains the goal
pub seen_explained : (P : Program) (g : Goal) (d : Derivation) → Explains P (seen g) d → Explains P g d
seen_explained P g d e = record { holds = e.holds; of_goal = subst (λ (h : Goal). seen (root d) ≡ h) (seen-again g) e.of_goal }
