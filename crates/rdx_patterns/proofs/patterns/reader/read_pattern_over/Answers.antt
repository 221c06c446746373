use Rattle.std.proofs.Common.{◌≡◌, ℕ, List, None, ap, sym, ◌∙◌}
use Rattle.std.specs.Prelude.{option_map}
use Rattle.rdx_lang.specs.Checked.{language_in, pattern_in}
use Rattle.rdx_lang.specs.Crosses.{with_crosses_to}
use Rattle.rdx_lang.specs.Patterns.{Pattern, Language}
use Rattle.rdx_lang.specs.PatternView.{pattern_of}
use Rattle.rdx_lang.specs.WellFormed.{is_well_formed_in}
use Rattle.rdx_patterns.specs.Ends.{ends_in, known_ends, crossed_for}
use Rattle.rdx_patterns.specs.Nonterminals.{names_of}
use Rattle.rdx_patterns.specs.PatternRefusal.{pattern_refusal}
use Rattle.rdx_patterns.specs.Reading.{reading}
use Rattle.rdx_patterns.specs.Refusal.{refusal_of}
use Rattle.rdx_patterns.specs.declared.patterns.position.Position.TheVariants.{Query}
use Rattle.rdx_patterns.proofs.KnownReadings.{pattern_well_formed}
use Rattle.rdx_patterns.proofs.patterns.reader.read_pattern_over.Goals as goal

pub known_with_crosses-requires : goal.known_with_crosses-requires
known_with_crosses-requires c =
    let L = language_in c.args.language.now in
    let d = c.args.d.now in
    let n : c.args.names.now ≡ names_of L = c.requires.names in
    let r : option_map refusal_of c.in_ok-refusal.field-0 ≡ pattern_refusal c.args.names.now d = c.in_ok-refusal.ensures in
    let o : pattern_refusal (names_of L) d ≡ None = ap (λ xs. pattern_refusal xs d) (sym n) ∙ sym r ∙ ap (option_map refusal_of) c.in_default.is in
    let e : pattern_of c.in_ok-pattern.pattern ≡ reading (names_of L) Query d = c.in_ok-pattern.ensures ∙ ap (λ xs. reading xs Query d) n in
    let a : c.deref.result.now ≡ ends_in d = c.deref.ensures.value ∙ c.in_ok-asked.ensures in
    let f : c.deref-2.result.now ≡ known_ends (names_of L) (ends_in d) = c.deref-2.ensures.value ∙ c.in_ok-ends.ensures ∙ λ i. known_ends (n i) (a i) in
    ap (λ (es : List (List ℕ)). is_well_formed_in (with_crosses_to L es) (pattern_of c.in_ok-pattern.pattern)) f
    ∙ ap (is_well_formed_in (crossed_for (ends_in d) L)) e
    ∙ pattern_well_formed L (ends_in d) d c.requires.readable (λ x i. i) o

pub returns-in-Some-clause-reads : goal.returns-in-Some-clause-reads
returns-in-Some-clause-reads c =
    let ns = names_of (language_in c.args.language.now) in
    let n : c.args.names.now ≡ ns = c.requires.names in
    let r : option_map refusal_of c.in_ok-refusal.field-0 ≡ pattern_refusal c.args.names.now c.args.d.now = c.in_ok-refusal.ensures in
    ap (λ xs. pattern_refusal xs c.args.d.now) (sym n) ∙ sym r ∙ ap (option_map refusal_of) c.in-Some.is

pub returns-clause-reads : goal.returns-clause-reads
returns-clause-reads c =
    let d = c.args.d.now in
    let ns = names_of (language_in c.args.language.now) in
    let n : c.args.names.now ≡ ns = c.requires.names in
    let r : option_map refusal_of c.in_ok-refusal.field-0 ≡ pattern_refusal c.args.names.now d = c.in_ok-refusal.ensures in
    let e : pattern_in c.in_ok-known_with_crosses.field-0 ≡ reading ns Query d =
    c.in_ok-known_with_crosses.ensures.pattern ∙ c.in_ok-pattern.ensures ∙ ap (λ xs. reading xs Query d) n in
    (ap (λ xs. pattern_refusal xs d) (sym n) ∙ sym r ∙ ap (option_map refusal_of) c.in_default.is, e)

pub returns-clause-well_formed : goal.returns-clause-well_formed
returns-clause-well_formed c =
    let L = language_in c.args.language.now in
    let d = c.args.d.now in
    let n : c.args.names.now ≡ names_of L = c.requires.names in
    let r : option_map refusal_of c.in_ok-refusal.field-0 ≡ pattern_refusal c.args.names.now d = c.in_ok-refusal.ensures in
    let o : pattern_refusal (names_of L) d ≡ None = ap (λ xs. pattern_refusal xs d) (sym n) ∙ sym r ∙ ap (option_map refusal_of) c.in_default.is in
    let e : pattern_in c.in_ok-known_with_crosses.field-0 ≡ reading (names_of L) Query d =
    c.in_ok-known_with_crosses.ensures.pattern ∙ c.in_ok-pattern.ensures ∙ ap (λ xs. reading xs Query d) n in
    let a : c.deref.result.now ≡ ends_in d = c.deref.ensures.value ∙ c.in_ok-asked.ensures in
    let f : c.deref-2.result.now ≡ known_ends (names_of L) (ends_in d) = c.deref-2.ensures.value ∙ c.in_ok-ends.ensures ∙ λ i. known_ends (n i) (a i) in
    let g : language_in c.known_with_crosses.new.language ≡ crossed_for (ends_in d) L =
    c.in_ok-known_with_crosses.ensures.added ∙ ap (λ (es : List (List ℕ)). with_crosses_to L es) f in
    ap (λ (M : Language). is_well_formed_in M (pattern_in c.in_ok-known_with_crosses.field-0)) g
    ∙ ap (λ (p : Pattern). is_well_formed_in (crossed_for (ends_in d) L) p) e
    ∙ pattern_well_formed L (ends_in d) d c.requires.readable (λ x i. i) o

pub returns-clause-gains : goal.returns-clause-gains
returns-clause-gains c =
    let L = language_in c.args.language.now in
    let d = c.args.d.now in
    let n : c.args.names.now ≡ names_of L = c.requires.names in
    let a : c.deref.result.now ≡ ends_in d = c.deref.ensures.value ∙ c.in_ok-asked.ensures in
    let f : c.deref-2.result.now ≡ known_ends (names_of L) (ends_in d) = c.deref-2.ensures.value ∙ c.in_ok-ends.ensures ∙ λ i. known_ends (n i) (a i) in
    c.in_ok-known_with_crosses.ensures.added ∙ ap (λ (es : List (List ℕ)). with_crosses_to L es) f
