-- A step on a control word leaves the open frames as they are.
use Rattle.std.proofs.Common.{◌≡◌, ℕ, ◌+◌, inl, inr, ap}
use mathlib.Core.Logic.{dite}
use native.Mathlib.Decide.{ℕ_discrete}
use lib.IntN.{ℤ_discrete}
use Rattle.theory.specs.Position.{id_of}
use Rattle.theory.specs.Words.{id_in}
use Rattle.publication.specs.declared.pass.Pass.{Pass}
use Rattle.publication.specs.Steps.{Rotates, geometry_of}

pub rotates_drafts : (v : Pass) (k from n : ℕ) (w : Pass) → Rotates v k from n w → w.work.drafts ≡ v.work.drafts
rotates_drafts v k from n w a = dite (ℕ_discrete n from)
    (λ e. ap (λ (x : Pass). x.work.drafts) (a.begun (inl e)))
    (λ ne. dite (ℤ_discrete (id_in n) (id_of (geometry_of v) (k + 1))) (λ yes. ap (λ (x : Pass). x.work.drafts) (a.begun (inr yes))) (λ no. ap (λ (x : Pass). x.work.drafts) (a.other ne no)))
