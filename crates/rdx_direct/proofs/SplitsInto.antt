-- What a pattern splits a term into, from the paths at which it does.
use Rattle.std.proofs.Common.{◌≡◌, ◌∙◌, ℕ, true, List, refl, sym, ap, subst}
use Rattle.rdx_term.specs.AtPaths.{IsPlace, context_at}
use Rattle.rdx_term.specs.Path.{path}
use Rattle.rdx_term.specs.Tree.{Tree}
use Rattle.rdx_lang.proofs.JoinLaws.{one_left-only, one_name-ascends, unit_left}
use Rattle.rdx_lang.proofs.RuleSteps.{named_splits, NamedSplit}
use Rattle.rdx_lang.proofs.SplitLaws.{split-along}
use Rattle.rdx_lang.specs.Bindings.{Binding, no_names, one, one_name, visible}
use Rattle.rdx_lang.specs.Collecting.{Arises, HasExactly}
use Rattle.rdx_lang.specs.Decompositions.{Decomposition}
use Rattle.rdx_lang.specs.Join.{IsJoin}
use Rattle.rdx_lang.specs.Laws.{IsAlongPath}
use Rattle.rdx_lang.specs.Listing.{SplitsVisibly}
use Rattle.rdx_lang.specs.Members.{In}
use Rattle.rdx_lang.specs.Patterns.{Pattern, named, Language}
use Rattle.rdx_lang.specs.Rules.{split_named}
use Rattle.rdx_bind.proofs.Gathering.{exactly_as}
use Rattle.rdx_bind.proofs.SplitRules.{at_its_path}
use Rattle.rdx_bind.specs.Spots.{SplitsAt}
use Rattle.rdx_direct.specs.Inside.Plain.{is_plain}
use Rattle.rdx_direct.specs.Inside.Splits.{IsPlainSplit, IsNamedSplit, plain_split, named_split}
use Rattle.rdx_direct.proofs.PlainLaws.{split-empty}

-- where a pattern splits a term is a place of the term
pub splits_inside : {L : Language} {p : Pattern} {t : Tree} {w : List ℕ} {b : Binding} → SplitsAt L p t (record { path = w; binding = b }) → IsPlace t w
splits_inside h = h.inside

-- so the paths at whose ends a pattern splits a term lead to places of it
pub places_inside : {L : Language} {p : Pattern} {t : Tree} {R : List ℕ → Type 0} (ws : List (List ℕ)) → HasExactly ws R
    → ((w : List ℕ) → R w → SplitsAt L p t (record { path = w; binding = no_names })) → (w : List ℕ) → In w ws → IsPlace t w
places_inside ws reach onward w i = splits_inside (onward w (reach.sound w i))

-- R holds of the paths at whose ends the pattern p splits the term t
module _ {L : Language} {p : Pattern} {t : Tree} {R : List ℕ → Type 0}
    (onward : (w : List ℕ) → R w → SplitsAt L p t (record { path = w; binding = no_names }))
    (back : (w : List ℕ) (b : Binding) → SplitsAt L p t (record { path = w; binding = b }) → R w)
    (ws : List (List ℕ)) (reach : HasExactly ws R) where
  -- what stands at the ends of these paths is what a pattern that binds nothing splits the term into
  pub plain_splits_into : {ds : List Decomposition} → is_plain p ≡ true → HasExactly ds (Arises (IsPlainSplit t) ws) → HasExactly ds (SplitsVisibly L p t)
  plain_splits_into e = exactly_as sound complete
    where
      sound : (d : Decomposition) → Arises (IsPlainSplit t) ws d → SplitsVisibly L p t d
      sound d a =
          let there : SplitsVisibly L p t (plain_split t a.from) = record { whole = no_names; holds = (onward a.from (reach.sound a.from a.among)).split; seen = refl } in
          subst (SplitsVisibly L p t) (sym a.by) there

      complete : (d : Decomposition) → SplitsVisibly L p t d → Arises (IsPlainSplit t) ws d
      complete d k =
          let a : IsAlongPath t d.context d.part = split-along k.holds in
          let b : d.binding ≡ no_names = k.seen ∙ ap visible (split-empty e k.holds) in
          record {
            from = path d.context;
            among = reach.complete (path d.context) (back (path d.context) k.whole (at_its_path k.holds));
            by = λ i. record { context = a.context i; part = a.part i; binding = b i };
          }

  -- and, with a name for the context, what the pattern with this name splits it into
  pub named_splits_into : {x : List ℕ} {ds : List Decomposition} → is_plain p ≡ true → HasExactly ds (Arises (IsNamedSplit x t) ws) → HasExactly ds (SplitsVisibly L (named x p) t)
  named_splits_into {x} e = exactly_as sound complete
    where
      sound : (d : Decomposition) → Arises (IsNamedSplit x t) ws d → SplitsVisibly L (named x p) t d
      sound d a =
          let b : Binding = one_name x (one (context_at t a.from)) in
          let there : SplitsVisibly L (named x p) t (named_split x t a.from) = record {
            whole = b;
            holds = split_named (onward a.from (reach.sound a.from a.among)).split (unit_left b (one_name-ascends x (one (context_at t a.from))));
            seen = refl;
          } in
          subst (SplitsVisibly L (named x p) t) (sym a.by) there

      complete : (d : Decomposition) → SplitsVisibly L (named x p) t d → Arises (IsNamedSplit x t) ws d
      complete d k =
          let n : NamedSplit L x p t d.context d.part k.whole = named_splits k.holds in
          let a : IsAlongPath t d.context d.part = split-along n.split in
          let none : n.inside ≡ no_names = split-empty e n.split in
          let w : k.whole ≡ one_name x (one d.context) = one_left-only (subst (λ c. IsJoin c (one_name x (one d.context)) k.whole) none n.joined) in
          let b : d.binding ≡ one_name x (one d.context) = k.seen ∙ ap visible w in
          record {
            from = path d.context;
            among = reach.complete (path d.context) (back (path d.context) n.inside (at_its_path n.split));
            by = λ i. record { context = a.context i; part = a.part i; binding = (b ∙ (λ j. one_name x (one (a.context j)))) i };
          }
