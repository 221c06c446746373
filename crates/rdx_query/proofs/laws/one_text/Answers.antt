use Rattle.rdx_query.proofs.OneText.{writes-one}
use Rattle.rdx_query.proofs.laws.one_text.Goals as goal

pub returns : goal.returns
returns c ds cs t u m n a b =
    let s = writes-one c.one_listing.ensures.matches c.one_listing.ensures.splits c.one_term.ensures.one c.one_meeting.ensures.one c.one_stepping.ensures.one
    c.one_walk.ensures.walk c.one_walk.ensures.run c.one_answer.ensures.one_answer ds cs t u m n a b in
    (s.text, s.met)
