-- What an offer leaves of what its pass has claimed.
use Rattle.std.proofs.Common.{◌≡◌, ℕ, ◌+◌, ◌-◌, ◌*◌, ◌/◌, ◌<◌, ◌≤◌, ⊎_elim, false, true, List, [], ◌∷◌, ◌++◌, map, length, subst, sym, refl, ap, ◌∙◌, arith}
use Rattle.std.specs.List.{AllByRecursion}
use Rattle.std.proofs.lemmas.Bool.{cases_lt}
use Rattle.std.proofs.lemmas.Nat.{div-mul-add}
use Rattle.theory.specs.Position.{Geometry, IsGeometry, aligned, cuts_of}
use Rattle.theory.specs.Words.{offset_in}
use Rattle.theory.proofs.Cuts.{short_cuts}
use Rattle.theory.proofs.Lists.{all_append}
use Rattle.publication.specs.declared.pass.ClaimRange.{ClaimRange}
use Rattle.publication.specs.declared.pass.FrameWords.{FrameWords}
use Rattle.publication.specs.declared.pass.Pass.{Pass}
use Rattle.publication.specs.declared.refusal.Refusal.{Refusal}
use Rattle.publication.specs.declared.refusal.Refusal.TheVariants.{NotConnected, BackPressured, AdminAction, Closed, MaxPositionExceeded}
use Rattle.publication.specs.declared.step.WordStep.{WordStep}
use Rattle.publication.specs.declared.step.WordStep.TheVariants as steps
use Rattle.publication.specs.Steps.{Keeps, count_in, geometry_of, message_at, padding_at, term_of, with_work}
use Rattle.publication.specs.Claims.{Justified, Leaves, LeavesPadding}
use Rattle.publication.specs.Offers.{Offered, Opened}
use Rattle.theory.specs.Bytes.{Identity}
use Rattle.shared_log.specs.Steps.Handles.{IsOf, LogValue, PublisherValue}
use Rattle.log_rule.specs.Claims.Rule.{entry_of}
use Rattle.log_rule.specs.Claims.Sums.{total}
use Rattle.log_rule.proofs.Claimed.Memories.{maps_append}
use Rattle.log_rule.proofs.Claimed.Totals.{total_append}
use Rattle.speed.specs.Rounds.{Claims, IsSender, IsSent, message_in, messages_of}

-- it has claimed so many messages more, and nothing else but paddings
pub record Kept (p : Pass) (more : ℕ) (q : Pass) : Type 0 where
  pub parts : q.right.parts ≡ p.right.parts
  pub drafts : q.work.drafts ≡ p.work.drafts
  pub messages : messages_of q ≡ messages_of p + more
  pub sent : AllByRecursion (IsSent (term_of p) p.number) p.right.claims → AllByRecursion (IsSent (term_of p) q.number) q.right.claims

-- ---- one claim more

one_more : (p q : Pass) (c : ClaimRange) → IsSent (term_of p) p.number c → q.right.claims ≡ p.right.claims ++ c ∷ [] → q.number ≡ p.number → q.right.parts ≡ p.right.parts → q.work.drafts ≡ p.work.drafts → Kept p (message_in (entry_of c)) q
one_more p q c sent claims number parts drafts =
    let cs = p.right.claims in
    let e : messages_of q ≡ total message_in (map entry_of cs ++ entry_of c ∷ []) = ap (λ (x : List ClaimRange). total message_in (map entry_of x)) claims ∙ ap (total message_in) (maps_append entry_of cs (c ∷ [])) in
    let a = total_append message_in (map entry_of cs) (entry_of c ∷ []) in record {
      parts = parts;
      drafts = drafts;
      messages = last (messages_of q) (messages_of p) (message_in (entry_of c)) (e ∙ a);
      sent = λ all. let P : ℕ → List ClaimRange → Type 0 = λ n xs. AllByRecursion (IsSent (term_of p) n) xs in
          subst (λ (n : ℕ). P n q.right.claims) (sym number) (subst (P p.number) (sym claims) (all_append (IsSent (term_of p) p.number) cs (c ∷ []) all (sent, tt)));
    }
  where
    last : (q p c : ℕ) → q ≡ p + (c + 0) → q ≡ p + c
    last q p c e = omega arith

-- a message of 200 bytes is one frame
pub one_frame : (g : Geometry) (n : ℕ) → IsGeometry g → n ≡ 200 → cuts_of g n ≡ 232 ∷ []
one_frame g n is e = let most = is.mtu.least in ap (cuts_of g) e ∙ short_cuts g 200 (omega arith)

pub offered : (p : Pass) (message : List ℕ) (end : ℕ) (q : Pass) → cuts_of (geometry_of p) (length message) ≡ 232 ∷ [] → Offered p message end q → Kept p 1 q
offered p message end q one h =
    let v = h.between in let c = message_at p h.claimed.word (length message) in
    one_more p q c (record { owner = refl; message = λ _. one; padding = λ (no : false ≡ true). cc }) (ap (λ (x : Pass). x.right.claims) h.after ∙ ap (λ (x : Pass). x.right.claims) h.claimed.after)
    (ap (λ (x : Pass). x.number) h.after ∙ ap (λ (x : Pass). x.number) h.claimed.after) (ap (λ (x : Pass). x.right.parts) h.after ∙ ap (λ (x : Pass). x.right.parts) h.claimed.after) (ap (λ (x : Pass). x.work.drafts) h.after)

pub offered_idle : (p : Pass) (message : List ℕ) (end : ℕ) (q : Pass) → Offered p message end q → q.right.armed ≡ 0
offered_idle p message end q h = ap (λ (v : Pass). v.right.armed) h.after ∙ h.claimed.idle

-- one of 200 bytes that was claimed, and then committed
pub claimed : (p q : Pass) (start : ℕ) (frames : List FrameWords) → cuts_of (geometry_of p) 200 ≡ 232 ∷ [] → p.work.drafts ≡ [] → Opened p 200 start q → Kept p 1 (with_work frames [] q)
claimed p q start frames one ended h =
    let after = h.claimed.after in
    one_more p (with_work frames [] q) (message_at p h.claimed.word 200) (record { owner = refl; message = λ _. one; padding = λ (no : false ≡ true). cc }) (ap (λ (x : Pass). x.right.claims) after) (ap (λ (x : Pass). x.number) after) (ap (λ (x : Pass). x.right.parts) after) (sym ended)

-- ---- of a publisher

pub claims : (l l' : LogValue) (p q : PublisherValue) (more : ℕ) → IsSender l p → l' ≡ l → IsOf l' q → q.pass.right.armed ≡ 0 → Kept p.pass more q.pass → Claims l p more q
claims l l' p q more s same of off k = record {
  sender = record { done = record { idle = record { of = subst (λ (x : LogValue). IsOf x q) same of; unarmed = off }; ended = k.drafts ∙ s.done.ended }; sent = at q s.done.idle.of.identity (k.sent (at p (sym s.done.idle.of.identity) s.sent)) };
  parts = k.parts;
  messages = k.messages;
}
  where
    at : (x : PublisherValue) {i j : Identity} → i ≡ j → AllByRecursion (IsSent i.geometry.term_length x.pass.number) x.pass.right.claims → AllByRecursion (IsSent j.geometry.term_length x.pass.number) x.pass.right.claims
    at x e all = subst (λ (i : Identity). AllByRecursion (IsSent i.geometry.term_length x.pass.number) x.pass.right.claims) e all

-- ---- refusals

kept : (p q : Pass) → Keeps p q → Kept p 0 q
kept p q h = record {
  parts = ap (λ (v : Pass). v.right.parts) h;
  drafts = ap (λ (v : Pass). v.work.drafts) h;
  messages = let e : messages_of q ≡ messages_of p = ap messages_of h in omega arith;
  sent = λ all. subst (λ (v : Pass). AllByRecursion (IsSent (term_of p) v.number) v.right.claims) (sym h) all;
}

-- the rest of a term reaches its end
to_end : (k t off : ℕ) → off < t → (k * t + off) / t * t + t ≤ k * t + off + (aligned (t - off) + 0)
to_end k t off low = let whole : (k * t + off) / t ≡ k = div-mul-add k t off low in let e : (k * t + off) / t * t ≡ k * t = ap (λ (n : ℕ). n * t) whole in up ((k * t + off) / t * t) (k * t) t off e low
  where
    up : (a b t off : ℕ) → a ≡ b → off < t → a + t ≤ b + off + (aligned (t - off) + 0)
    up a b t off e low = omega arith

kept_padding : (p : Pass) (word : ℕ) (q : Pass) → LeavesPadding p word q → Kept p 0 q
kept_padding p word q h =
    ⊎_elim
    (λ (low : offset_in word < term_of p). let e = h.below low in
    one_more p q (padding_at p word) (record { owner = refl; message = λ (no : true ≡ false). cc; padding = λ _. to_end (count_in (geometry_of p) word) (term_of p) (offset_in word) low }) (ap (λ (v : Pass). v.right.claims) e) (ap (λ (v : Pass). v.number) e) (ap (λ (v : Pass). v.right.parts) e) (ap (λ (v : Pass). v.work.drafts) e))
    (λ (high : term_of p ≤ offset_in word). kept p q (h.over high))
    (cases_lt (offset_in word) (term_of p))

kept_leaves : (p : Pass) (rest : List WordStep) (q : Pass) → Leaves p rest q → Kept p 0 q
kept_leaves p [] q h = kept p q h
kept_leaves p (steps.Limit word ∷ more) q h = kept p q h
kept_leaves p (steps.Count count ∷ more) q h = kept p q h
kept_leaves p (steps.Tail partition word ∷ more) q h = kept p q h
kept_leaves p (steps.Addition partition taken word ∷ more) q h = kept_padding p word q h
kept_leaves p (steps.NextTail partition word ∷ more) q h = kept p q h
kept_leaves p (steps.TailExchange partition from to word ∷ more) q h = kept p q h
kept_leaves p (steps.CountExchange from count ∷ more) q h = kept p q h

pub refused : (p : Pass) (size : ℕ) (why : Refusal) (q : Pass) → Justified p size why q → Kept p 0 q
refused p size NotConnected q h = kept_leaves p h.rest q h.leaves
refused p size BackPressured q h = kept_leaves p h.rest q h.leaves
refused p size AdminAction q h = kept_leaves p h.rest q h.leaves
refused p size Closed q h = kept p q h.after
refused p size MaxPositionExceeded q h = kept_leaves p h.rest q h.leaves

pub refused_idle : (p : Pass) (size : ℕ) (why : Refusal) (q : Pass) → Justified p size why q → p.right.armed ≡ 0 → q.right.armed ≡ 0
refused_idle p size NotConnected q h off = h.idle off
refused_idle p size BackPressured q h off = h.idle off
refused_idle p size AdminAction q h off = h.idle off
refused_idle p size Closed q h off = h.armed ∙ off
refused_idle p size MaxPositionExceeded q h off = h.idle off
