mod LineLemmas
mod RoomLemmas
