-- One binding at a time: each binding that an extra makes of one is one that it leads to, and each that it leads to is made.
use Rattle.std.proofs.Common.{◌≡◌, ℕ, Bool, true, false, List, [], ◌∷◌, refl, sym, subst, if◌then◌else◌}
use Rattle.rdx_term.specs.Tree.{Tree}
use Rattle.rdx_lang.specs.Bindings.{Binding, visible}
use Rattle.rdx_lang.specs.Join.{IsJoin}
use Rattle.rdx_lang.specs.Listing.{IsListing}
use Rattle.rdx_lang.specs.Members.{In, here}
use Rattle.rdx_lang.specs.Order.{binding_cmp}
use Rattle.rdx_lang.specs.Patterns.{Pattern, Language}
use Rattle.rdx_lang.specs.Programs.{Extra, such_as, provided, holds, fresh, Premise, Program}
use Rattle.rdx_lang.specs.Rules.{Match}
use Rattle.rdx_lang.specs.Templates.{Template, Host}
use Rattle.rdx_lang.proofs.Collecting.{only, no_member}
use Rattle.rdx_eval.specs.Answers.{value, Then, Gather, Single, Lists, lists}
use Rattle.rdx_eval.specs.Calls.{Calls}
use Rattle.rdx_eval.specs.Extending.{Joined, joined, Matched, matched, MatchedEach, By, ByEach, Extend, unless_false}
use Rattle.rdx_eval.specs.Fresh.{Avoided, behind, freshly}
use Rattle.rdx_eval.specs.Heights.{height}
use Rattle.rdx_eval.specs.Instantiation.{HostMakes, Makes, MakeList, is_false}
use Rattle.rdx_eval.specs.Laws.{Keeps}
use Rattle.rdx_eval.specs.Making.{IsList}
use Rattle.rdx_eval.proofs.HeldPremises.{joins-sound, joins-complete}
use Rattle.rdx_eval.proofs.OneAnswer.{same_value, once-call, once-inst, once-host, once-make-list}
use Rattle.rdx_eval.proofs.Reached.{reached, gathered-sound, gathered-complete}
use Rattle.rdx_eval.proofs.Staying.{keeps-same, keeps-then, keeps-gather, keeps-single, keeps-inst, keeps-host}
use Rattle.rdx_deriv.specs.Judged.{Judged, Leads, leads_end, leads_where, leads_condition, leads_premise, leads_fresh, calls}

-- ---- joins

-- each of the joins with one binding is the join with it, and that is among them
pub joined-sound : (b d : Binding) (cs : List Binding) (c : Binding) → Joined b d (value cs) → In c cs → IsJoin b d c
joined-sound b d cs c (joined j) i = let k = joins-sound b (d ∷ []) cs c j i in subst (λ (z : Binding). IsJoin b z c) (only k.1) k.2

joined-complete : (b d : Binding) (cs : List Binding) (c : Binding) → Joined b d (value cs) → IsJoin b d c → In c cs
joined-complete b d cs c (joined j) k = joins-complete b (d ∷ []) cs d c j (here refl) k

-- ---- what patterns match

module _ (L : Language) (p : Pattern) (b : Binding) (t : Tree) (cs : List Binding) (c : Binding) where
  -- a binding by which the pattern matches, and the join with what is seen of it
  pub record FoundBy : Type 0 where
    pub found : Binding
    pub matches : Match L p t found
    pub join : IsJoin b (visible found) c

  -- what is made of it is such a join
  pub matched-sound : Matched L p b t (value cs) → In c cs → FoundBy
  matched-sound (matched {ds = ds} l j) i =
      let k = joins-sound b ds cs c j i in
      let s = l.sound k.0 k.1 in
      record { found = s.whole; matches = s.holds; join = subst (λ (z : Binding). IsJoin b z c) s.seen k.2 }

  -- and each is made
  matched-complete : (d : Binding) → Matched L p b t (value cs) → Match L p t d → IsJoin b (visible d) c → In c cs
  matched-complete d (matched {ds = ds} l j) m k =
      joins-complete b ds cs (visible d) c j (l.complete (visible d) (record { whole = d; holds = m; seen = refl })) k

-- ---- conditions

-- what a condition leaves is the binding itself, where the condition is not false
pub condition-sound : (t : Tree) (b c : Binding) → In c (unless_false t b) → (is_false t ≡ false) × (c ≡ b)
condition-sound t b c i = by_test (is_false t) refl i
  where
    by_test : (v : Bool) → is_false t ≡ v → In c (if v then [] else b ∷ []) → (is_false t ≡ false) × (c ≡ b)
    by_test true e j = no_member j
    by_test false e j = (e, only j)

-- and there it leaves it
condition-complete : (t : Tree) (b : Binding) → is_false t ≡ false → In b (unless_false t b)
condition-complete t b e = by_test (is_false t) e
  where
    by_test : (v : Bool) → v ≡ false → In b (if v then [] else b ∷ [])
    by_test true d = absurd cc
    by_test false d = here refl

-- what lists the members of a set lists them
pub listing_in : {A : Type 0} (cmp : _) (R : A → Type 0) (xs : List A) → Lists cmp R (value xs) → IsListing cmp xs R
listing_in cmp R xs (lists l) = l

-- ---- one extra

-- calls of which each value is one at the height of the program
module _ (P : Program) (C : Calls) (stays : (f : List ℕ) (a : Tree) → Keeps (C.value_of f a) ((calls P).value_of f a)) where
  -- what a template makes is made there
  makes-there : (b : Binding) (m : Template) (t : Tree) → Makes C b m (value t) → Makes (calls P) b m (value t)
  makes-there b m t h = keeps-inst C (calls P) stays b [] m (value t) tt h

  -- so is what a host expression makes
  host-there : (b : Binding) (x : Host) (t : Tree) → HostMakes C b x (value t) → HostMakes (calls P) b x (value t)
  host-there b x t h = keeps-host C (calls P) stays b [] x (value t) tt h

  -- and the list of what templates make
  pub list-there : (b : Binding) (ms : List Template) (t : Tree) → MakeList C b ms (value t) → MakeList (calls P) b ms (value t)
  list-there b ms t h =
      keeps-then (Gather (λ m. Single (Makes C b m)) ms) (Gather (λ m. Single (Makes (calls P) b m)) ms) IsList IsList
      (keeps-gather (λ m. Single (Makes C b m)) (λ m. Single (Makes (calls P) b m))
      (λ m. keeps-single (Makes C b m) (Makes (calls P) b m) (keeps-inst C (calls P) stays b [] m)) ms)
      (λ ts. keeps-same (IsList ts)) (value t) tt h

  -- so it is the same
  pub list-same : (b : Binding) (ms : List Template) (t u : Tree) → MakeList C b ms (value t) → MakeList (calls P) b ms (value u) → u ≡ t
  list-same b ms t u h k =
      same_value t u (once-make-list (calls P) (once-call P height) b ms (value t) (value u) (list-there b ms t h) k)

  module _ (L : Language) where
    -- each binding that it makes is one that it leads to
    by-sound : ((j : List ℕ) (a : Tree) (os : List Tree) (o : Tree) → C.outputs_of j a (value os) → In o os → Judged P j a o)
        → (w : Avoided) (x : Extra) (es : List Extra) (b c e : Binding) (cs : List Binding) → By L C w x b (value cs) → In c cs
        → Leads P L (behind w x) es c e → Leads P L w (x ∷ es) b e
    by-sound s w (such_as p m) es b c e cs h i g =
        let k = reached (Makes C b m) (Matched L p b) cs h in
        let f = matched-sound L p b k.between cs c k.behind i in
        leads_where (makes-there b m k.between k.before) f.matches f.join g
    by-sound s w (provided x) es b c e cs h i g =
        let k = reached (HostMakes C b x) (λ t r. r ≡ value (unless_false t b)) cs h in
        let j : In c (unless_false k.between b) =
        subst (λ (ds : List Binding). In c ds) (sym (same_value cs (unless_false k.between b) k.behind)) i in
        let f = condition-sound k.between b c j in
        leads_condition k.between (host-there b x k.between k.before) f.0 (subst (λ (d : Binding). Leads P L w es d e) f.1 g)
    by-sound s w (holds q) es b c e cs h i g =
        let k = reached (Then (MakeList C b q.inputs) (C.outputs_of q.judgement)) (MatchedEach L q.outputs b) cs h in
        let l = reached (MakeList C b q.inputs) (C.outputs_of q.judgement) k.between k.before in
        let n = gathered-sound (Matched L q.outputs b) k.between cs c k.behind i in
        let f = matched-sound L q.outputs b n.from n.given c n.gives n.one in
        leads_premise (list-there b q.inputs l.between l.before) (s q.judgement l.between k.between n.from l.behind n.among) f.matches f.join g
    by-sound s w (fresh x) es b c e cs h i g = leads_fresh (joined-sound b (freshly w b x) cs c h i) g

    -- the join with what is seen of each match of what the template makes is made
    pub where-made : (p : Pattern) (m : Template) (b d c : Binding) (t : Tree) (cs : List Binding) → Then (Makes C b m) (Matched L p b) (value cs)
        → Makes (calls P) b m (value t) → Match L p t d → IsJoin b (visible d) c → In c cs
    where-made p m b d c t cs h i n j =
        let k = reached (Makes C b m) (Matched L p b) cs h in
        let e : t ≡ k.between =
        same_value k.between t
        (once-inst (calls P) (once-call P height) b [] m (value k.between) (value t) (makes-there b m k.between k.before) i) in
        matched-complete L p b k.between cs c d k.behind (subst (λ (u : Tree). Match L p u d) e n) j

    -- the binding stays where a condition is not false
    pub condition-made : (x : Host) (b : Binding) (t : Tree) (cs : List Binding)
        → Then (HostMakes C b x) (λ u r. r ≡ value (unless_false u b)) (value cs) → HostMakes (calls P) b x (value t) → is_false t ≡ false → In b cs
    condition-made x b t cs h i n =
        let k = reached (HostMakes C b x) (λ u r. r ≡ value (unless_false u b)) cs h in
        let e : t ≡ k.between =
        same_value k.between t
        (once-host (calls P) (once-call P height) b [] x (value k.between) (value t) (host-there b x k.between k.before) i) in
        subst (λ (ds : List Binding). In b ds) (same_value cs (unless_false k.between b) k.behind)
        (condition-complete k.between b (subst (λ (u : Tree). is_false u ≡ false) e n))

    -- the join with what is seen of each match of one of the outputs is made
    pub premise-made : (q : Premise) (b d c : Binding) (t u : Tree) (cs : List Binding)
        → Then (Then (MakeList C b q.inputs) (C.outputs_of q.judgement)) (MatchedEach L q.outputs b) (value cs)
        → MakeList (calls P) b q.inputs (value t) → ((us : List Tree) → C.outputs_of q.judgement t (value us) → In u us) → Match L q.outputs u d
        → IsJoin b (visible d) c → In c cs
    premise-made q b d c t u cs h i s n j =
        let k = reached (Then (MakeList C b q.inputs) (C.outputs_of q.judgement)) (MatchedEach L q.outputs b) cs h in
        let l = reached (MakeList C b q.inputs) (C.outputs_of q.judgement) k.between k.before in
        let e : t ≡ l.between = list-same b q.inputs l.between t l.before i in
        let o : In u k.between =
        s k.between (subst (λ (v : Tree). C.outputs_of q.judgement v (value k.between)) (sym e) l.behind) in
        let g = gathered-complete (Matched L q.outputs b) k.between cs u k.behind o in
        g.gathered c (matched-complete L q.outputs b u g.given c d g.gives n j)

    -- the join with a fresh name is made
    pub fresh-made : (w : Avoided) (x : List ℕ) (b c : Binding) (cs : List Binding) → Joined b (freshly w b x) (value cs)
        → IsJoin b (freshly w b x) c → In c cs
    fresh-made w x b c cs h j = joined-complete b (freshly w b x) cs c h j

    -- ---- all extras

    -- one of these bindings, from which the extras lead to c
    pub record LedFrom (w : Avoided) (es : List Extra) (bs : List Binding) (c : Binding) : Type 0 where
      pub start : Binding
      pub among : In start bs
      pub leads : Leads P L w es start c

    -- what extras leave comes of one of the bindings before them
    pub extended-sound : ((j : List ℕ) (a : Tree) (os : List Tree) (o : Tree) → C.outputs_of j a (value os) → In o os → Judged P j a o)
        → (w : Avoided) (es : List Extra) (bs cs : List Binding) (c : Binding) → Extend L C w es bs (value cs) → In c cs → LedFrom w es bs c
    extended-sound s w [] bs cs c h i =
        record { start = c; among = subst (λ (ds : List Binding). In c ds) (sym (same_value cs bs h)) i; leads = leads_end }
    extended-sound s w (x ∷ es) bs cs c h i =
        let k = reached (ByEach L C w x bs) (Extend L C (behind w x) es) cs h in
        let l = reached (Gather (By L C w x) bs) (λ ds. Lists binding_cmp (λ d. In d ds)) k.between k.before in
        let r = extended-sound s (behind w x) es k.between cs c k.behind i in
        let listing = listing_in binding_cmp (λ d. In d l.between) k.between l.behind in
        let g = gathered-sound (By L C w x) bs l.between r.start l.before (listing.sound r.start r.among) in
        record { start = g.from; among = g.among; leads = by-sound s w x es g.from r.start c g.given g.gives g.one r.leads }

    -- Where the first extra makes of a binding what leads on, and what leads on from there is left by the others, it is left by all.
    pub extended-next : (w : Avoided) (x : Extra) (es : List Extra) (bs cs : List Binding) (b n c : Binding)
        → Extend L C w (x ∷ es) bs (value cs) → In b bs → ((ds : List Binding) → By L C w x b (value ds) → In n ds)
        → ((fs : List Binding) → Extend L C (behind w x) es fs (value cs) → In n fs → In c cs) → In c cs
    extended-next w x es bs cs b n c h i made others =
        let k = reached (ByEach L C w x bs) (Extend L C (behind w x) es) cs h in
        let l = reached (Gather (By L C w x) bs) (λ ds. Lists binding_cmp (λ d. In d ds)) k.between k.before in
        let listing = listing_in binding_cmp (λ d. In d l.between) k.between l.behind in
        let g = gathered-complete (By L C w x) bs l.between b l.before i in
        others k.between k.behind (listing.complete n (g.gathered n (made g.given g.gives)))
