-- Nodes that are added behind others: what was there stays, and stays right.
use Rattle.std.proofs.Common.{◌≡◌, ℕ, ◌+◌, ◌<◌, ◌≤◌, List, [], ◌∷◌, ◌++◌, length, Vec, Global, refl, sym, ◌∙◌, ap, subst, arith, append_assoc, append-nil}
use Rattle.std.proofs.lemmas.List.{length-append}
use Rattle.rdx_lang.specs.Patterns.{Pattern}
use Rattle.rdx_nodes.specs.Index.{IsIndex}
use Rattle.rdx_nodes.specs.Nodes.{pattern_at, patterns_at, slots_at, pattern_by, patterns_in, AreBelow, AreEntries, IsForm, AreNodes}
use Rattle.rdx_nodes.specs.Settings.{language_at, patterns_at_hand, IsReady, Grows}
use Rattle.rdx_nodes.specs.Inside.Numbering.{Adds}
use Rattle.rdx_nodes.specs.declared.index.Index.{Index}
use Rattle.rdx_nodes.specs.declared.node.Entry.{Entry}
use Rattle.rdx_nodes.specs.declared.node.Node.{Node}
use Rattle.rdx_nodes.specs.declared.setting.Setting.{Setting}
use Rattle.rdx_nodes.proofs.NodePatterns.{pattern_at-append, patterns_at-append, slots_at-append, entries-append, patterns_from-append, patterns_from-more, patterns_in-push, patterns_in-length, nodes-push}

-- numbers stay those of nonterminals where patterns are added
index-append : (ps qs : List Pattern) (x : Index) → IsIndex ps x → IsIndex (ps ++ qs) x
index-append ps qs x a = record {
  below = λ y n e. let h = a.below y n e in let l = length-append ps qs in omega (arith, h, l);
  pattern = λ y n e. pattern_at-append ps qs n (a.below y n e) ∙ a.pattern y n e;
}

-- where nothing is added
pub adds-none : (s : Setting) → IsReady s → Adds s s
adds-none s r = record { language = refl; terms = refl; more = []; nodes = sym (append-nil s.nodes.items); ready = r }

-- nodes and then others
pub adds-then : (s t u : Setting) → Adds s t → Adds t u → Adds s u
adds-then s t u a b = record {
  language = b.language ∙ a.language;
  terms = b.terms ∙ a.terms;
  more = a.more ++ b.more;
  nodes = b.nodes ∙ ap (λ ns. ns ++ b.more) a.nodes ∙ append_assoc s.nodes.items a.more b.more;
  ready = b.ready;
}

-- one node whose parts are there
pub adds-push : (s : Setting) (v : Vec Node Global) (x : Node) → IsReady s
    → IsForm (language_at s) (patterns_at_hand s) (length s.nodes.items) (length s.nodes.items) x.form → v.items ≡ s.nodes.items ++ x ∷ []
    → Adds s (record { alloc = s.alloc; language = s.language; places = s.places; nodes = v; index = s.index; store = s.store })
adds-push s v x r f e =
    let L = language_at s in
    let ns = s.nodes.items in
    record {
      language = refl;
      terms = refl;
      more = x ∷ [];
      nodes = e;
      ready = record {
        nodes = subst (λ (ms : List Node). AreNodes L ms) (sym e) (nodes-push L ns x r.nodes f);
        index = subst (λ (ps : List Pattern). IsIndex ps s.index) (sym (ap patterns_in e ∙ patterns_in-push ns x))
            (index-append (patterns_in ns) (pattern_by (patterns_in ns) x.form ∷ []) s.index r.index);
      };
    }

module _ (s t : Setting) (a : Adds s t) where
  -- there are as many nodes at least
  pub adds-length : length s.nodes.items ≤ length t.nodes.items
  adds-length = let e : length t.nodes.items ≡ length s.nodes.items + length a.more = ap length a.nodes
      ∙ length-append s.nodes.items a.more in omega (arith, e)

  -- the patterns stay, and more come behind them
  pub adds-patterns : (more : List Pattern) × (patterns_at_hand t ≡ patterns_at_hand s ++ more)
  adds-patterns =
      let k = patterns_from-more (patterns_at_hand s) a.more in
      (k.0, ap patterns_in a.nodes ∙ patterns_from-append [] s.nodes.items a.more ∙ k.1)

  -- so the setting grows
  pub adds-grows : Grows s t
  adds-grows = record { language = a.language; terms = a.terms; more = adds-patterns.0; patterns = adds-patterns.1 }

  -- the numbers of nodes are those of patterns
  number-pattern : (n : ℕ) → n < length s.nodes.items → n < length (patterns_at_hand s)
  number-pattern n h = let l = patterns_in-length s.nodes.items in omega (arith, h, l)

  -- a number stays one
  pub adds-below : (n : ℕ) → n < length s.nodes.items → n < length t.nodes.items
  adds-below n h = let l = adds-length in omega (arith, h, l)

  -- and keeps its pattern
  pub adds-pattern : (n : ℕ) → n < length s.nodes.items → pattern_at (patterns_at_hand t) n ≡ pattern_at (patterns_at_hand s) n
  adds-pattern n h =
      ap (λ ps. pattern_at ps n) adds-patterns.1 ∙ pattern_at-append (patterns_at_hand s) adds-patterns.0 n (number-pattern n h)

  -- numbers keep their patterns
  pub adds-patterns_at : (ns : List ℕ) → AreBelow ns (length s.nodes.items)
      → patterns_at (patterns_at_hand t) ns ≡ patterns_at (patterns_at_hand s) ns
  adds-patterns_at ns h =
      let l = patterns_in-length s.nodes.items in
      ap (λ ps. patterns_at ps ns) adds-patterns.1
      ∙ patterns_at-append (patterns_at_hand s) adds-patterns.0 ns (subst (λ k. AreBelow ns k) (sym l) h)

  module _ (es : List Entry) (h : AreEntries (patterns_at_hand s) (length s.nodes.items) es) where
    -- there are as many patterns as nodes
    all_nodes : length s.nodes.items ≤ length (patterns_at_hand s)
    all_nodes = let l = patterns_in-length s.nodes.items in omega (arith, l)

    -- entries stand for the same items
    pub adds-slots : slots_at (patterns_at_hand t) es ≡ slots_at (patterns_at_hand s) es
    adds-slots =
        ap (λ ps. slots_at ps es) adds-patterns.1
        ∙ slots_at-append (patterns_at_hand s) adds-patterns.0 (patterns_at_hand s) (length s.nodes.items) es all_nodes h

    -- and stay right
    pub adds-entries : AreEntries (patterns_at_hand t) (length t.nodes.items) es
    adds-entries =
        subst (λ (ps : List Pattern). AreEntries ps (length t.nodes.items) es) (sym adds-patterns.1)
        (entries-append (patterns_at_hand s) adds-patterns.0 (length s.nodes.items) (length t.nodes.items) es all_nodes adds-length h)
