-- Where no byte waits, is held or was lost, the bytes read are those put up.
use Rattle.std.proofs.Common.{◌≡◌, ℕ, ◌+◌, ◌<◌, Bool, true, false, cond, eqb, List, [], ◌∷◌, ◌++◌, sym, refl, ap, ◌∙◌, append_assoc, append-nil, arith}
use Rattle.std.proofs.lemmas.Bool.{and_parts, ltb-true}
use Rattle.bus.specs.Meaning.{Meaning, Lawful}
use Rattle.account.specs.Lines.{Line}
use Rattle.account.specs.Fates.{Entry, Share, Gone, Fates, tells_read, tells_lost, record_of, lost_of, Complete, RecordsTell}
use Rattle.account.specs.Fates.Gone.{none, then}
use Rattle.account.proofs.Account.{every_fate}

abbrev read_byte : Entry → List ℕ
read_byte e = cond (tells_read e) (e.answer.value ∷ []) []

record_snoc : (es : List Entry) (e : Entry) → record_of (es ++ (e ∷ [])) ≡ record_of es ++ read_byte e
unfolding record_of
record_snoc [] e = append-nil _
record_snoc (x ∷ es) e = ap (λ r. read_byte x ++ r) (record_snoc es e) ∙ sym (append_assoc (read_byte x) (record_of es) _)

lost_snoc : (es : List Entry) (e : Entry) → lost_of (es ++ (e ∷ [])) ≡ lost_of es + cond (tells_lost e) e.answer.lost 0
unfolding lost_of
lost_snoc [] e = omega arith
lost_snoc (x ∷ es) e = let h = lost_snoc es e in omega arith

-- a share with nothing lost is what was read
whole : (e : Entry) (share : List ℕ) (r l : Bool) → tells_read e ≡ r → tells_lost e ≡ l → Share e share → cond l e.answer.lost 0 ≡ 0 → share ≡ cond r (e.answer.value ∷ []) []
whole e share true l is ls s z = s.reads is
whole e share false true is ls s z = absurd (let h : 0 < e.answer.lost = ltb-true 0 _ (and_parts (eqb e.answer.phase 4) _ ls).1 in omega arith)
whole e share false false is ls s z = s.neither is ls

all_read : (es : List Entry) (bytes : List ℕ) → Gone es bytes → lost_of es ≡ 0 → bytes ≡ record_of es
unfolding record_of
all_read es bytes none z = refl
all_read es bytes (then fs before e share g s) z =
    let both : lost_of fs + cond (tells_lost e) e.answer.lost 0 ≡ 0 = sym (lost_snoc fs e) ∙ z in
    let first : lost_of fs ≡ 0 = omega arith in
    let last : cond (tells_lost e) e.answer.lost 0 ≡ 0 = omega arith in
    ap (λ r. r ++ share) (all_read fs before g first) ∙ ap (λ r. record_of fs ++ r) (whole e share (tells_read e) (tells_lost e) refl refl s last) ∙ sym (record_snoc fs e)

-- a complete record is what was put up
pub complete_record : {S : Type 0} (m : Meaning S) (up : List ℕ) (es : List Entry) (l : Line S) → Fates m up es l → Complete m es l → up ≡ record_of es
complete_record m up es l f b =
    f.all ∙ ap (λ r. f.gone ++ (r ++ m.waiting l.station)) b.holds ∙ ap (λ r. f.gone ++ r) b.waits ∙ append-nil f.gone ∙ all_read es f.gone f.told b.lost

pub records_tell : {P Q : Type 0} (m : Meaning P) (n : Meaning Q) → Lawful m → Lawful n → RecordsTell m n
records_tell m n lm ln up up' es es' l l' h h' b b' =
    let r = complete_record m up es l (every_fate m lm up es l h) b in
    let r' = complete_record n up' es' l' (every_fate n ln up' es' l' h') b' in
    (λ e. r ∙ e ∙ sym r', λ e. sym r ∙ e ∙ r')
