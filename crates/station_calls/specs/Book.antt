-- A book, by what its store and its handlers say of themselves.
use Rattle.hub_rows.specs.Rows.{Rows}
use Rattle.hub_rows.specs.StoreView.{StoreView}
use Rattle.station_calls.specs.Vendors.{Answers, HandlerView, answer_of}
use Rattle.station_calls.specs.declared.book.Book.{Book}

-- its store
abbrev pub book_view : {S V : Type 0} → (S → StoreView) → Book S V → StoreView
book_view view b = view b.store

abbrev pub book_rows : {S V : Type 0} → (S → StoreView) → Book S V → Rows
book_rows view b = (view b.store).rows

abbrev pub IsCleanBook : {S V : Type 0} → (S → StoreView) → Book S V → Type 0
IsCleanBook view b = (view b.store).clean

-- what vendors' messages are answered
abbrev pub book_answers : {S V : Type 0} → (V → HandlerView) → Book S V → Answers
book_answers view b = answer_of view b.vendors.items
