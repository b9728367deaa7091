mod NewJournal
