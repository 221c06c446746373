use Rattle.std.proofs.Common.{◌≡◌, [], ◌∷◌}
use Rattle.rdx_lang.specs.Bindings.{no_names}
use Rattle.rdx_lang.specs.Shown.{bindings_of}
use Rattle.rdx_bind.proofs.AcrossRows.{bindings_are_maps, listing_unit_left, listing_unit_right}
use Rattle.rdx_bind.proofs.combining.joins_of.Goals as goal

pub returns-then-is_no_names_alone : goal.returns-then-is_no_names_alone
returns-then-is_no_names_alone c =
    let e : bindings_of c.deref.result.now ≡ no_names ∷ [] = c.is_no_names_alone.ensures.0 cc in
    listing_unit_left (bindings_of c.args.firsts.items) (bindings_of c.args.others.items) (rw c.deref.ensures.value at e) (bindings_are_maps c.args.others.items) c.requires.others

pub returns-then-is_no_names_alone-2 : goal.returns-then-is_no_names_alone-2
returns-then-is_no_names_alone-2 c =
    let e : bindings_of c.deref-2.result.now ≡ no_names ∷ [] = c.is_no_names_alone-2.ensures.0 cc in
    listing_unit_right (bindings_of c.args.firsts.items) (bindings_of c.args.others.items) (rw c.deref-2.ensures.value at e) (bindings_are_maps c.args.firsts.items) c.requires.firsts
