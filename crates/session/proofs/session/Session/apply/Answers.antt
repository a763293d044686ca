use Rattle.std.proofs.Common.{◌≡◌, refl, rules}
use Rattle.list.specs.Held.{kept, full}
use Rattle.session.specs.declared.call.Call.TheVariants.{Entry, Publication}
use Rattle.session.specs.Replies.{answer_of, notice_answer_of, print_answer_of}
use Rattle.session.proofs.Grounds.{Grounds, entry_grounds, publication_grounds}
use Rattle.session.proofs.Upheld.{reply_upheld, notice_upheld}
use Rattle.session.proofs.session.Session.apply.Goals as goal

pub returns-in-Quote-clause-life : goal.returns-in-Quote-clause-life
returns-in-Quote-clause-life g c =
    let result : c.map-in-Quote.result ≡ answer_of c.record_quote.result = search rules in
    rw (c.in-Quote.is, result) (c.record_quote.ensures.life (kept c.args.orders.now) (kept c.args.notices.now))

pub returns-in-Entry-clause-upheld : goal.returns-in-Entry-clause-upheld
returns-in-Entry-clause-upheld g c =
    let s = c.args.self.now in
    let rows = kept c.args.orders.now in
    let t = c.in-Entry.ticket in
    let result : c.map-in-Entry.result ≡ answer_of c.enter.result = search rules in
    let grounds : Grounds s c.enter.result = rw (c.enter.ensures.value) (entry_grounds s rows (full c.args.orders.now) (kept c.args.notices.now) t) in
    rw (c.in-Entry.is, result) (reply_upheld s rows (Entry t) c.enter.result _ refl grounds)

pub returns-in-Publication-clause-upheld : goal.returns-in-Publication-clause-upheld
returns-in-Publication-clause-upheld g c =
    let s = c.args.self.now in
    let rows = kept c.args.orders.now in
    let significant = c.in-Publication.significant in
    let result : c.map-in-Publication.result ≡ notice_answer_of c.publish.result = search rules in
    let grounds : Grounds s c.publish.result = rw (c.publish.ensures.value) (publication_grounds s rows (kept c.args.notices.now) (full c.args.notices.now) significant) in
    rw (c.in-Publication.is, result) (notice_upheld s rows (Publication significant) c.publish.result _ refl grounds)

pub returns-in-Cancel-clause-life : goal.returns-in-Cancel-clause-life
returns-in-Cancel-clause-life g c =
    let result : c.map-in-Cancel.result ≡ answer_of c.cancel.result = search rules in
    rw (c.in-Cancel.is, result) (c.cancel.ensures.life (kept c.args.notices.now))

pub returns-in-Reduction-clause-life : goal.returns-in-Reduction-clause-life
returns-in-Reduction-clause-life g c =
    let result : c.map-in-Reduction.result ≡ answer_of c.reduce.result = search rules in
    rw (c.in-Reduction.is, result) (c.reduce.ensures.life (kept c.args.notices.now))

pub returns-in-Close-clause-upheld : goal.returns-in-Close-clause-upheld
returns-in-Close-clause-upheld g c =
    let result : c.map-in-Close.result ≡ print_answer_of c.close.result = search rules in
    rw (c.in-Close.is, result) c.close.ensures.upheld

pub returns-in-Close-clause-life : goal.returns-in-Close-clause-life
returns-in-Close-clause-life g c =
    let result : c.map-in-Close.result ≡ print_answer_of c.close.result = search rules in
    rw (c.in-Close.is, result) (c.close.ensures.life (kept c.args.notices.now))
