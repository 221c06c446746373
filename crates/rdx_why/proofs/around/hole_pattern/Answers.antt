use Rattle.std.proofs.Common.{◌+◌, ◌-◌, ◌++◌, take, drop, length, map, refl, ◌∙◌, ap, arith}
use Rattle.rdx_lang.specs.Patterns.{seq}
use Rattle.rdx_lang.specs.PatternView.{slot_of, items_of}
use Rattle.rdx_lang.proofs.PatternEquations.{pattern_seq}
use Rattle.rdx_why.proofs.FormLaws.{rest_whole}
use Rattle.rdx_why.proofs.HoleQuestions.{hole_put}
use Rattle.rdx_why.proofs.around.hole_pattern.Goals as goal

pub returns : goal.returns
returns c =
    let xs = c.args.items.now in
    let i = c.args.place in
    pattern_seq c.put_items-2.new.put
    ∙ ap (λ rs. seq (items_of rs))
    (hole_put xs (take i xs) (take (length xs - (i + 1)) (drop (i + 1) xs)) i c.index-items-place.result (map slot_of c.put_items.new.put.items)
    (map slot_of c.put_hole.new.put.items) (map slot_of c.put_items-2.new.put.items) c.requires c.index-items-place.is refl
    (rest_whole xs (i + 1) (omega arith))
    (c.in_ok-put_items.ensures ∙ ap (λ ys. map slot_of ys ++ map slot_of (take i xs)) c.in_ok-put.ensures.items)
    c.in_ok-put_hole.ensures c.in_ok-put_items-2.ensures)
