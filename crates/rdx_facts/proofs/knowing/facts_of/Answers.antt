use Rattle.std.proofs.Common.{◌≡◌, ◌∙◌, List, true, map, ap, subst}
use Rattle.std.specs.Prelude.{Option, IfSome, Vec}
use Rattle.std.specs.declared.alloc.Global.{Global}
use Rattle.rdx_lang.specs.Patterns.{Definition, Language}
use Rattle.rdx_lang.specs.PatternView.{language_of}
use Rattle.rdx_lang.specs.declared.facts.May.{May}
use Rattle.rdx_lang.specs.declared.pattern.Ref.{Ref}
use Rattle.rdx_facts.specs.Inside.Flags.{may_by, flags_of, flags_by, is_closed}
use Rattle.rdx_facts.proofs.Sound.{all-known, closed-within}
use Rattle.rdx_facts.proofs.knowing.facts_of.Goals as goal

pub returns-in_ok-mentioned-in-Some : goal.returns-in_ok-mentioned-in-Some
returns-in_ok-mentioned-in-Some c =
    let L : Language = language_of c.args.language.now in
    let marks : List May = c.in-Some.marks.items in
    let E : Ref → May = may_by L marks in
    let closed : is_closed E L.nonterminals ≡ true =
    subst (λ (o : Option (Vec May Global)). IfSome o (λ v. is_closed (may_by L v.items) L.nonterminals ≡ true)) c.in-Some.is c.in_ok-marks.ensures in
    let all : map flags_of c.in_ok-nonterminals-in-Some.nonterminals.items ≡ map (λ d. flags_by E d) L.nonterminals =
    c.in_ok-nonterminals-in-Some.ensures ∙ ap (λ (ms : List May). map (λ (d : Definition). flags_by (may_by L ms) d) L.nonterminals) c.deref.ensures.value in
    record {
      nonterminals = all-known L E (closed-within E L closed) L.nonterminals c.in_ok-nonterminals-in-Some.nonterminals.items all;
      mentioned = c.in_ok-mentioned-in-Some.ensures;
    }
