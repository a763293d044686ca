-- The grounds on which calls other than the close are refused. Assumes nothing.
use Rattle.std.proofs.Common.{◌≡◌, ℕ, Bool, true, false, not, ◌&&◌, ◌||◌, List, None, Ok, Err, Result, refl, sym, ◌∙◌, true≢false}
use Rattle.std.specs.Prelude.{nat_le, nat_lt}
use Rattle.order.specs.declared.kind.Row.{Row}
use Rattle.order.specs.declared.sale.Quote.{Quote as AQuote}
use Rattle.order.specs.declared.sale.Sale.{Sale as LastSale}
use Rattle.order.specs.declared.ticket.Ticket.{Ticket}
use Rattle.order.specs.Entered.{sound_ticket}
use Rattle.order.specs.Kinds.{is_price, is_size, is_number}
use Rattle.order.specs.Sales.{sound_quote}
use Rattle.book.specs.Listing.{is_listed}
use Rattle.clock.specs.declared.table.Event.TheVariants as event
use Rattle.clock.specs.Phases.{is_time, is_late}
use Rattle.clock.specs.Table.{wants_notice}
use Rattle.session.specs.declared.fault.SessionFault.{SessionFault}
use Rattle.session.specs.declared.fault.SessionFault.TheVariants.{Done, OutOfLimits, Earlier, Unlisted, NotNow, NoNotice, AlreadyListed, OrdersFull, NotSmaller, NoSale, AlreadyMandatory, Insignificant, NoticesFull}
use Rattle.session.specs.declared.notice.Notice.{Notice}
use Rattle.session.specs.Answers.{allowance_of, lets_now, listed_at, time_answer, sale_answer, quote_answer, entry_answer, cancel_answer, reduction_answer, publication_answer}
use Rattle.session.specs.Notices.{notice_of, is_faced, has_mandatory, is_notable}
use Rattle.session.specs.Questions.{refused_with, ask}
use Rattle.session.specs.States.{State}
use Rattle.session.proofs.Asking.{ask-other, ask_for-other, past-ask, none-from_ask_for, plain, ask-plain, ask_for-plain, is_plain_number, plain-other, ask-done}

-- a call is refused as done just where the session is, for want of a sale only where there is none, and never with what only a close asks
pub record Grounds {T : Type 0} (s : State) (r : Result T SessionFault) : Type 0 where
  pub done : refused_with 7 r ≡ s.done
  pub no_sale : refused_with 16 r ≡ true → s.sale ≡ None
  pub unfillable : refused_with 21 r ≡ false
  pub equal : refused_with 22 r ≡ false

-- so it is where all questions after the first are plain
plain_grounds : {T : Type 0} (s : State) (rest : Result T SessionFault) → plain rest ≡ true → Grounds s (ask (not s.done) Done rest)
plain_grounds s rest p =
    record {
      done = ask-done s.done rest (plain-other rest 7 p refl);
      no_sale = λ e. absurd (true≢false (sym (past-ask 16 (not s.done) Done rest refl e) ∙ plain-other rest 16 p refl));
      unfillable = ask-other 21 (not s.done) Done rest refl (plain-other rest 21 p refl);
      equal = ask-other 22 (not s.done) Done rest refl (plain-other rest 22 p refl);
    }

-- of a refusal they do not depend on what the call would have answered
pub refusal_grounds : {T U : Type 0} (s : State) (fault : SessionFault) → Grounds {T = T} s (Err fault) → Grounds {T = U} s (Err fault)
refusal_grounds s fault g = record { done = g.done; no_sale = g.no_sale; unfillable = g.unfillable; equal = g.equal }

module _ (s : State) where
  pub time_grounds : (t : ℕ) → Grounds s (time_answer s t)
  time_grounds t = plain_grounds s _ (ask-plain (is_time t) OutOfLimits _ refl (ask-plain (nat_le s.time t) Earlier _ refl refl))

  pub sale_grounds : (p : ℕ) → Grounds s (sale_answer s p)
  sale_grounds p = plain_grounds s _ (ask-plain (is_price p) OutOfLimits _ refl (ask-plain (lets_now s event.Sale) NotNow _ refl refl))

  pub quote_grounds : (q : AQuote) → Grounds s (quote_answer s q)
  quote_grounds q = plain_grounds s _ (ask-plain (sound_quote q) OutOfLimits _ refl (ask-plain (lets_now s event.Quote) NotNow _ refl refl))

  pub entry_grounds : (rows : List Row) (full : Bool) (notices : List Notice) (t : Ticket) → Grounds s (entry_answer s rows full notices t)
  entry_grounds rows full notices t =
      plain_grounds s _ (ask-plain (sound_ticket t) OutOfLimits _ refl (ask-plain (lets_now s (event.In t.kind)) NotNow _ refl
      (ask-plain (not (wants_notice (allowance_of s (event.In t.kind))) || is_faced t.side notices) NoNotice _ refl
      (ask-plain (not (is_listed t.number rows)) AlreadyListed _ refl (ask-plain (not full) OrdersFull _ refl refl)))))

  pub cancel_grounds : (rows : List Row) (n : ℕ) (in_error : Bool) → Grounds s (cancel_answer s rows n in_error)
  cancel_grounds rows n in_error =
      plain_grounds s _ (ask-plain (is_number n) OutOfLimits _ refl (ask_for-plain (listed_at n rows) Unlisted _ refl (λ found.
      ask-plain (lets_now s (event.Off found.row.kind in_error)) NotNow _ refl refl)))

  pub reduction_grounds : (rows : List Row) (n size : ℕ) (in_error : Bool) → Grounds s (reduction_answer s rows n size in_error)
  reduction_grounds rows n size in_error =
      plain_grounds s _ (ask-plain (is_number n && is_size size) OutOfLimits _ refl (ask_for-plain (listed_at n rows) Unlisted _ refl (λ found.
      ask-plain (lets_now s (event.Off found.row.kind in_error)) NotNow _ refl (ask-plain (nat_lt size found.row.size) NotSmaller _ refl refl))))

  module _ (rows : List Row) (notices : List Notice) (full significant : Bool) where
    -- what is asked once there is a sale
    abbrev then : LastSale → Result Notice SessionFault
    then last = ask (not (is_late s.time && has_mandatory notices)) AlreadyMandatory (ask (is_notable (notice_of s rows last) significant) Insignificant (ask (not full) NoticesFull (Ok (notice_of s rows last))))

    then-other : (last : LastSale) (n : ℕ) → is_plain_number n ≡ false → refused_with n (then last) ≡ false
    then-other last n other =
        plain-other {T = Notice} (then last) n
        (ask-plain (not (is_late s.time && has_mandatory notices)) AlreadyMandatory _ refl (ask-plain (is_notable (notice_of s rows last) significant) Insignificant _ refl (ask-plain (not full) NoticesFull _ refl refl))) other

    pub publication_grounds : Grounds s (publication_answer s rows notices full significant)
    publication_grounds =
        record {
          done = ask-done s.done _ (ask-other 7 (lets_now s event.Publication) NotNow _ refl (ask_for-other 7 s.sale NoSale _ refl (λ last. then-other last 7 refl)));
          no_sale = λ e.
              none-from_ask_for 16 s.sale NoSale _ (λ last. then-other last 16 refl)
              (past-ask 16 (lets_now s event.Publication) NotNow _ refl (past-ask 16 (not s.done) Done _ refl e));
          unfillable = ask-other 21 (not s.done) Done _ refl (ask-other 21 (lets_now s event.Publication) NotNow _ refl (ask_for-other 21 s.sale NoSale _ refl (λ last. then-other last 21 refl)));
          equal = ask-other 22 (not s.done) Done _ refl (ask-other 22 (lets_now s event.Publication) NotNow _ refl (ask_for-other 22 s.sale NoSale _ refl (λ last. then-other last 22 refl)));
        }
