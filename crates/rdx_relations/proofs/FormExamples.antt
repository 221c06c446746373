-- The worked examples of relations and of their shorthand.
use Rattle.std.proofs.Common.{refl}
use Rattle.std.specs.Str.{chars}
use Rattle.rdx_relations.specs.ShorthandExamples.{GoesOn, OneEach, PutInStays, PlainStays, OtherHeadRefused, SameRefused, AgainRefused, LaterRefused}
use Rattle.rdx_relations.specs.RelationExamples.{BindsBehind, MakesFresh, HeadRefused, LanguageRefused, ShapeRefused, NameRefused, ArrowRefused, ExtraRefused, ResultRefused, ClashRefused, FreshRefused}

-- ---- relations

pub binds_behind : BindsBehind
unfolding chars
binds_behind s = record { passes = refl; parts = _; is_form = refl; is_read = refl }

pub makes_fresh : MakesFresh
unfolding chars
makes_fresh s = record { passes = refl; parts = _; is_form = refl; is_read = refl }

pub head_refused : HeadRefused
unfolding chars
head_refused = refl

pub language_refused : LanguageRefused
unfolding chars
language_refused = refl

pub shape_refused : ShapeRefused
unfolding chars
shape_refused = refl

pub name_refused : NameRefused
unfolding chars
name_refused = refl

pub arrow_refused : ArrowRefused
unfolding chars
arrow_refused = refl

pub extra_refused : ExtraRefused
unfolding chars
extra_refused = refl

pub result_refused : ResultRefused
unfolding chars
result_refused = refl

pub clash_refused : ClashRefused
unfolding chars
clash_refused = refl

pub fresh_refused : FreshRefused
unfolding chars
fresh_refused = refl

-- ---- shorthand

pub goes_on : GoesOn
unfolding chars
goes_on s t = record { passes = refl; parts = _; is_form = refl; are = refl }

pub one_each : OneEach
unfolding chars
one_each s t = record { passes = refl; parts = _; is_form = refl; are = refl }

pub put_in_stays : PutInStays
unfolding chars
put_in_stays s t = record { passes = refl; parts = _; is_form = refl; are = refl }

pub plain_stays : PlainStays
unfolding chars
plain_stays s t = record { passes = refl; parts = _; is_form = refl; are = refl }

pub other_head_refused : OtherHeadRefused
unfolding chars
other_head_refused = refl

pub same_refused : SameRefused
unfolding chars
same_refused = refl

pub again_refused : AgainRefused
unfolding chars
again_refused s = refl

pub later_refused : LaterRefused
unfolding chars
later_refused s = refl
