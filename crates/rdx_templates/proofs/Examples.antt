-- The worked examples.
use Rattle.std.proofs.Common.{refl}
use Rattle.std.specs.Str.{chars}
use Rattle.rdx_templates.specs.Examples.{Repeats, Fills, StandsForItself, Calls, ListsBehind, Evaluates, KeywordRefused, KeywordFirst, ShapeRefused, DepthRefused, UndrivenRefused, EscapeRefused, CountRefused, BareEllipsisRefused}

pub repeats : Repeats
unfolding chars
repeats s = (refl, refl)

pub fills : Fills
unfolding chars
fills s = (refl, refl)

pub stands_for_itself : StandsForItself
unfolding chars
stands_for_itself s = (refl, refl)

pub calls : Calls
unfolding chars
calls s = (refl, refl)

pub lists_behind : ListsBehind
unfolding chars
lists_behind s = (refl, refl)

pub evaluates : Evaluates
unfolding chars
evaluates s = (refl, refl)

pub keyword_refused : KeywordRefused
keyword_refused = refl

pub keyword_first : KeywordFirst
keyword_first = refl

pub shape_refused : ShapeRefused
shape_refused = refl

pub depth_refused : DepthRefused
depth_refused = refl

pub undriven_refused : UndrivenRefused
undriven_refused = refl

pub escape_refused : EscapeRefused
escape_refused = refl

pub count_refused : CountRefused
count_refused = refl

pub bare_ellipsis_refused : BareEllipsisRefused
bare_ellipsis_refused = refl
