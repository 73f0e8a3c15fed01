-- What a reader's calls leave of a log in one hand.
use Rattle.std.proofs.Common.{◌∙◌, sym, ap, subst, refl}
use Rattle.std.proofs.lemmas.List.{set-get_or, set-set}
use Rattle.std.specs.Prelude.{◌≡◌, ℕ, List, None, Option, Some, slice_set}
use Rattle.theory.specs.Placed.{Among, Placed}
use Rattle.one_hand.specs.Stream.{HasConsumer, Stream, position_of, with_consumer}

-- the reader of this number stands elsewhere, and nothing else has changed
pub record MovesReader (number : ℕ) (old : Stream) (after : ℕ) (new : Stream) : Type 0 where
  pub number_is : after ≡ number
  pub moved : new ≡ with_consumer old number (position_of new number)

-- nobody else changes the log
abbrev pub AreSame : List Placed → List Placed → Type 0
AreSame old new = new ≡ old

-- ---- the laws of a source

pub frames_on : (a b c : List Placed) → AreSame a b → AreSame b c → AreSame a c
frames_on a b c h k = k ∙ h

pub frames_keep : (a b : List Placed) → AreSame a b → (frame : Placed) → Among frame a → Among frame b
frames_keep a b h frame among = subst (λ xs. Among frame xs) (sym h) among

pub reader_stays : (number : ℕ) (l : Stream) → HasConsumer l number → MovesReader number l number l
reader_stays number l h = record {
  number_is = refl;
  moved = ap (λ (cs : List (Option ℕ)). record l { consumers = cs }) (sym (set-get_or l.consumers number None) ∙ ap (slice_set l.consumers number) h);
}

pub reader_goes_on : (a : ℕ) (l : Stream) (b : ℕ) (m : Stream) (c : ℕ) (n : Stream) → MovesReader a l b m → MovesReader b m c n → MovesReader a l c n
reader_goes_on a l b m c n h k = record {
  number_is = k.number_is ∙ h.number_is;
  moved =
      k.moved
      ∙ ap (λ (i : ℕ). with_consumer m i (position_of n i)) h.number_is
      ∙ ap (λ (x : Stream). with_consumer x a (position_of n a)) h.moved
      ∙ ap (λ (cs : List (Option ℕ)). record l { consumers = cs }) (set-set l.consumers a (Some (position_of m a)) (Some (position_of n a)));
}
