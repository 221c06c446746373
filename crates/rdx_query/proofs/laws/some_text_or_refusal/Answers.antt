use Rattle.rdx_query.proofs.SomeText.{some_text_or_refusal}
use Rattle.rdx_query.proofs.laws.some_text_or_refusal.Goals as goal

pub returns : goal.returns
returns c ds cs =
    some_text_or_refusal c.free_or_recursive.ensures c.some_listing.ensures.matches c.some_listing.ensures.splits c.one_term.ensures.some
    c.one_meeting.ensures.some c.one_stepping.ensures.some c.some_walk.ensures.walk c.some_walk.ensures.run
    c.some_answer.ensures.some_answer ds cs
