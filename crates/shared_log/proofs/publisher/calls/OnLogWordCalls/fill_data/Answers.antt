use Rattle.std.proofs.Common.{◌≡◌, ℕ, ◌+◌, ◌≤◌, ◌∷◌, [], length, ap, refl, sym, ◌∙◌, subst, arith}
use Rattle.theory.specs.Bytes.{Identity}
use Rattle.theory.specs.Placed.{Data}
use Rattle.theory.specs.Position.{aligned}
use Rattle.position.specs.Words.{header_words}
use Rattle.position.proofs.Fields.{all_bytes}
use Rattle.shared_log.specs.Steps.Handles.{LogValue}
use Rattle.shared_log.proofs.Filling.{data_first, data_spelt, fills, opens}
use Rattle.shared_log.proofs.publisher.calls.OnLogWordCalls.fill_data.Goals as goal

covers : (n a k : ℕ) → k ≡ aligned a → a ≡ n + 32 → k ≡ aligned (32 + n)
covers n a k e f = omega (arith, e, f)

pub commit-requires-clause-open : goal.commit-requires-clause-open
commit-requires-clause-open c =
    let i : Identity = c.self.inside.log.now.identity in let same : c.args.pass.now.pass.identity ≡ i = c.requires.fits.identity ∙ sym (ap (λ (l : LogValue). l.identity) c.self.view_is) in let n : ℕ = length c.args.payload.now in
    let long : c.align32.result ≡ aligned (32 + n) = covers n (n + 32) c.align32.result c.align32.ensures refl in
    let header : header_words i c.args.start ≡ c.header_words-second.result.0 ∷ c.header_words-second.result.1 ∷ 0 ∷ [] = ap (λ (j : Identity). header_words j c.args.start) (sym c.identity-identity.ensures.is) ∙ c.header_words-second.ensures.words in
    opens i c.args.pass.now.pass _ (Data c.args.flags c.args.payload.now) c.requires.blank long (omega arith) c.first_word-first.ensures.nonzero (c.requires.flags, subst (λ (j : Identity). 32 + n ≤ j.geometry.mtu) same c.requires.short, all_bytes c.args.payload.now (λ j. omega (arith, c.type_inv.payload j)))
    (data_spelt i c.args.start c.args.flags c.align32.result c.first_word-first.result c.header_words-second.result.0 c.header_words-second.result.1 c.args.payload.now long (data_first c.args.payload.now c.args.flags c.first_word-first.result c.first_word-first.ensures.value) header)

pub returns-clause-fills : goal.returns-clause-fills
returns-clause-fills c =
    let i : Identity = c.self.inside.log.now.identity in let same : c.args.pass.now.pass.identity ≡ i = c.requires.fits.identity ∙ sym (ap (λ (l : LogValue). l.identity) c.self.view_is) in let n : ℕ = length c.args.payload.now in
    let long : c.align32.result ≡ aligned (32 + n) = covers n (n + 32) c.align32.result c.align32.ensures refl in
    let header : header_words i c.args.start ≡ c.header_words-second.result.0 ∷ c.header_words-second.result.1 ∷ 0 ∷ [] = ap (λ (j : Identity). header_words j c.args.start) (sym c.identity-identity.ensures.is) ∙ c.header_words-second.ensures.words in
    fills i c.args.pass.now.pass c.commit.new.publisher.pass c.args.start _ (Data c.args.flags c.args.payload.now) same (omega arith)
    (data_spelt i c.args.start c.args.flags c.align32.result c.first_word-first.result c.header_words-second.result.0 c.header_words-second.result.1 c.args.payload.now long (data_first c.args.payload.now c.args.flags c.first_word-first.result c.first_word-first.ensures.value) header) c.commit.ensures.told
