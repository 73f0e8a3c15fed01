use Rattle.std.proofs.Common.{◌≡◌, ◌≤◌, ◌∷◌, [], ap, sym, ◌∙◌, subst, arith}
use Rattle.theory.specs.Bytes.{Identity}
use Rattle.theory.specs.Placed.{Pad}
use Rattle.position.specs.Words.{header_words}
use Rattle.shared_log.specs.Steps.Handles.{LogValue}
use Rattle.shared_log.proofs.Filling.{fills, opens, pad_spelt}
use Rattle.shared_log.proofs.publisher.calls.OnLogWordCalls.fill_padding.Goals as goal

pub commit-requires-clause-open : goal.commit-requires-clause-open
commit-requires-clause-open c =
    let i : Identity = c.self.inside.log.now.identity in let same : c.args.pass.now.pass.identity ≡ i = c.requires.fits.identity ∙ sym (ap (λ (l : LogValue). l.identity) c.self.view_is) in let least = c.requires.long in
    let header : header_words i c.args.start ≡ c.header_words-second.result.0 ∷ c.header_words-second.result.1 ∷ 0 ∷ [] = ap (λ (j : Identity). header_words j c.args.start) (sym c.identity-identity.ensures.is) ∙ c.header_words-second.ensures.words in
    opens i c.args.pass.now.pass _ (Pad c.args.frame_length) c.requires.blank c.align32.ensures (omega (arith, least)) c.first_word-first.ensures.nonzero (c.requires.long, subst (λ (j : Identity). c.args.frame_length ≤ j.geometry.term_length) same c.requires.short)
    (pad_spelt i c.args.start c.args.frame_length c.align32.result c.first_word-first.result c.header_words-second.result.0 c.header_words-second.result.1 c.requires.long c.align32.ensures c.first_word-first.ensures.value header)

pub returns-clause-fills : goal.returns-clause-fills
returns-clause-fills c =
    let i : Identity = c.self.inside.log.now.identity in let same : c.args.pass.now.pass.identity ≡ i = c.requires.fits.identity ∙ sym (ap (λ (l : LogValue). l.identity) c.self.view_is) in let least = c.requires.long in
    let header : header_words i c.args.start ≡ c.header_words-second.result.0 ∷ c.header_words-second.result.1 ∷ 0 ∷ [] = ap (λ (j : Identity). header_words j c.args.start) (sym c.identity-identity.ensures.is) ∙ c.header_words-second.ensures.words in
    fills i c.args.pass.now.pass c.commit.new.publisher.pass c.args.start _ (Pad c.args.frame_length) same (omega (arith, least))
    (pad_spelt i c.args.start c.args.frame_length c.align32.result c.first_word-first.result c.header_words-second.result.0 c.header_words-second.result.1 c.requires.long c.align32.ensures c.first_word-first.ensures.value header) c.commit.ensures.told
