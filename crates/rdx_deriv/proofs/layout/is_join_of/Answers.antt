use Rattle.std.proofs.Common.{◌≡◌, List, map, subst, sym, ap, ◌∙◌}
use Rattle.rdx_lang.specs.Bindings.{Binding}
use Rattle.rdx_lang.specs.Members.{In}
use Rattle.rdx_lang.specs.Shown.{binding_of, bindings_of}
use Rattle.rdx_bind.specs.Combining.{JoinsAcross}
use Rattle.rdx_bind.specs.Rows.{all_matches, split_rows_of}
use Rattle.rdx_deriv.specs.Inside.Layouts.{alone}
use Rattle.rdx_deriv.proofs.Going.{joined_across, across_joined}
use Rattle.rdx_deriv.proofs.layout.is_join_of.Goals as goal

pub returns : goal.returns
returns c =
    let cs = bindings_of c.args.parts.now in
    let b = binding_of c.args.b.now in
    let rows : all_matches (split_rows_of c.deref.result.now) ≡ map alone cs = ap (λ rs. all_matches (split_rows_of rs)) c.deref.ensures.value ∙ c.in_ok-rows.ensures in
    let found : bindings_of c.deref-2.result.now ≡ bindings_of c.in_ok-found.found.items = ap bindings_of c.deref-2.ensures.value in (
      λ k. across_joined cs b (subst (λ (rs : List (List Binding)). JoinsAcross rs b) rows
          (c.in_ok-found.ensures.sound b (subst (λ (bs : List Binding). In b bs) found (c.is_among.ensures.0 k)))),
      λ j. c.is_among.ensures.1 (subst (λ (bs : List Binding). In b bs) (sym found)
          (c.in_ok-found.ensures.complete b (subst (λ (rs : List (List Binding)). JoinsAcross rs b) (sym rows) (joined_across cs b j)))),
    )
