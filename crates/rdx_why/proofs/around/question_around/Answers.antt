use Rattle.std.proofs.Common.{map}
use Rattle.rdx_lang.specs.PatternView.{pattern_of, slot_of}
use Rattle.rdx_why.proofs.around.question_around.Goals as goal

pub returns : goal.returns
returns c = record {
  slots = map slot_of c.in-Some.way.items.now;
  place = c.in-Some.way.place;
  by = pattern_of c.in-Some.way.pattern.now;
  way = c.in-Some.ensures.way;
  nothing = c.in_ok-binds_nothing.ensures c.if-not-branch.false;
  only = c.is_only_hole.ensures c.if-not-is_only_hole.false;
  asked = c.in_ok-pat.ensures;
  around = c.in_ok-around.ensures;
}
