-- The status of a line, by what the parser holds against its words.
use Rattle.std.proofs.Common.{◌≡◌, ◌≤◌, ◌≢◌, ◌⊎◌, ℕ, zero, suc, List, [], ◌∷◌, inl, inr, refl, ap, sym, subst, drop, map, arith}
use Rattle.std.specs.Borrow.{Bor}
use Rattle.clap.specs.Words.{IsAmong, Kinds, Text, kind_of}
use Rattle.clap.specs.declared.error.Error.{Error}
use Rattle.clap.specs.declared.error.kind.ErrorKind.{ErrorKind}
use Rattle.clap.specs.declared.error.kind.ErrorKind.TheVariants.{DisplayHelp, DisplayVersion, OutOfMemory}
use Rattle.command_line.specs.Readers.{faults_by, faults_of, reader_of}
use Rattle.command_line.specs.Refusals.{HoldRefusal, IsFaultOf, IsRefusalKind}
use Rattle.command_line.specs.declared.fault.LineFault.{LineFault}
use Rattle.command_line.specs.declared.fault.LineFault.TheVariants.{Memory, Shown}
use Rattle.command_line.specs.declared.readers.Reader.{Reader}
use Rattle.commands.specs.Statuses.{IsLineStatus, IsStatusOf, RefusesBy, RefusesLine}

one_or_none : (n : ℕ) → n ≤ 1 → (n ≡ 0) ⊎ (n ≡ 1)
one_or_none zero few = inl refl
one_or_none (suc zero) few = inr refl
one_or_none (suc (suc n)) few = absurd (omega (arith, few))

below_two : (n : ℕ) → n ≤ 2 → n ≢ 2 → n ≤ 1
below_two n few other = omega (arith, few, other)

no_refusal : (kind : ErrorKind) → (kind ≡ DisplayHelp) ⊎ (kind ≡ DisplayVersion) → IsRefusalKind kind → ⊥
no_refusal kind (inl help) is = is.0 help
no_refusal kind (inr version) is = is.1 version

-- words that are taken
pub taken : (faults : Kinds) (status : ℕ) → faults ≡ [] → status ≤ 3 → IsStatusOf faults status
taken faults status none few = record {
  most = few;
  refused = λ are. absurd (are.some none);
  help = λ ask. absurd (ask.some none);
  short = λ _. none;
}

-- the version was asked for
pub version_status : (status : ℕ) → status ≤ 1 → IsStatusOf (DisplayVersion ∷ []) status
version_status status few = record {
  most = omega (arith, few);
  refused = λ are. absurd ((are.all DisplayVersion (inl refl)).1 refl);
  help = λ _. one_or_none status few;
  short = λ three. absurd (omega (arith, few, three));
}

-- words that aren't taken
pub untaken : (faults : Kinds) (fault : LineFault) (status : ℕ) → IsFaultOf faults fault → IsLineStatus fault status → IsStatusOf faults status
untaken faults (Shown e) status is line = record {
  most = omega (arith, line.most);
  refused = λ are. inl (line.refused.1 (are.all (kind_of e) is.0));
  help = λ ask. one_or_none status (below_two status line.most (λ two. no_refusal (kind_of e) (ask.all (kind_of e) is.0) (line.refused.0 two)));
  short = λ three. absurd (omega (arith, line.most, three));
}
untaken faults Memory status is line = record {
  most = omega (arith, line.most);
  refused = λ _. inr (line.memory refl);
  help = λ _. inr (line.memory refl);
  short = λ three. absurd (omega (arith, line.most, three));
}

pub refused_line : (faults : Kinds) (fault : LineFault) (status : ℕ) → IsFaultOf faults fault → IsLineStatus fault status → status ≡ 2 → HoldRefusal faults
refused_line faults (Shown e) status is line two = (kind_of e, is.0, line.refused.0 two)
refused_line faults Memory status is line two = absurd (line.refused.0 two)

-- what the parser of `sim`, `decode` and `run` says of a fault
pub told_fault : (faults : Kinds) (fault : LineFault) → ((e : Error) → fault ≡ Shown e → IsAmong (kind_of e) faults)
    → ((e : Error) → fault ≡ Shown e → kind_of e ≡ OutOfMemory → ⊥) → IsFaultOf faults fault
told_fault faults (Shown e) among shown = (among e refl, shown e refl)
told_fault faults Memory among shown = tt

-- by who reads the line
pub by_reader : (words : List Text) (r : Reader) (status : ℕ) → r ≡ reader_of (drop 1 words) → IsStatusOf (faults_by r words) status → IsStatusOf (faults_of words) status
by_reader words r status is of = subst (λ (x : Reader). IsStatusOf (faults_by x words) status) is of

pub refused_by : (words : List Text) (r : Reader) → r ≡ reader_of (drop 1 words) → RefusesBy r words → RefusesLine words
refused_by words r is refuses = subst (λ (x : Reader). RefusesBy x words) is refuses

-- the texts behind the first word
pub texts_behind : (words line : List (Bor Text)) → line ≡ drop 1 words → map (λ s. s.now) line ≡ drop 1 (map (λ s. s.now) words)
texts_behind [] line is = subst (λ (x : List (Bor Text)). map (λ s. s.now) x ≡ []) (sym is) refl
texts_behind (word ∷ rest) line is = ap (map (λ s. s.now)) is
